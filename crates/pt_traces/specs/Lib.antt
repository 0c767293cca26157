-- Rows: the rows of a text, and what each of them is in a trace
pub mod Rows
-- Answers: the parts of an answer, and which answers agree
pub mod Answers
-- Blocks: the lines of a trace's script, each with the answers that were seen
pub mod Blocks
