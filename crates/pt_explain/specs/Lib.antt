-- Rows: the rows of an explanation, with a reason and its source
pub mod Rows
-- Entries: the rows of the entries that a script's line added
pub mod Entries
-- ObjectRows: the rows of the objects that a script's line names
pub mod ObjectRows
-- Explanations: what is written to explain a line of a script
pub mod Explanations
-- TellingLemmas: explanations are a way to tell what came of lines
pub mod TellingLemmas
