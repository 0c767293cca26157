pub mod Tallies
pub mod GoesOn
pub mod OwnEvents
