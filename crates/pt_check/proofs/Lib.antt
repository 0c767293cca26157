-- Comparing: blocks that were compared, one after another
pub mod Comparing
-- Counting: how many answers agree
mod Counting
-- Meeting: what is written for a line for which memory was not lacking
mod Meeting
-- Results: what holds of a result that a callee gave
mod Results
-- OneFindings: one thing is found of a trace
mod OneFindings
