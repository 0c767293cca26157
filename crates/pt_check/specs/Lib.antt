-- Agreements: when the answers that were seen are those that the rules give
pub mod Agreements
-- Laws: one thing is found of a trace
pub mod Laws
