pub mod Places
pub mod InTurn
