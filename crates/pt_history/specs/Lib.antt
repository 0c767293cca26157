pub mod Compact
pub mod Records
pub mod Stored
