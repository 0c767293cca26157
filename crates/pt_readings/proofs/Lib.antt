-- Prefix: the histories of the first entries of a list
pub mod Prefix
-- Stood: the calls left waiting are in order of their places, and each entry leaves at most one
pub mod Stood
-- Opens: the open calls in order of their places, and what a Trip answers to each
pub mod Opens
-- Orders: the least of a list of calls, by place
pub mod Orders
-- Waits: which waits a signal or a broadcast moves
pub mod Waits
