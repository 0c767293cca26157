pub mod Touched
pub mod Candidates
pub mod TouchLaws
