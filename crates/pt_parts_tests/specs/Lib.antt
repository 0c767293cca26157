-- Linking: object rows that can be put into a chain
pub mod Linking
-- Playing: lists of waiters on which each drawn call may be made
pub mod Playing
