pub mod Served
pub mod Faults
pub mod Clocks
