-- Deadlines: a finite map from places to deadlines, each with its clock and in nanoseconds
pub mod Deadlines
-- Orders: the deadlines of each clock, by their keys
pub mod Orders
