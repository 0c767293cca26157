-- RowLemmas: the first row of a text, and what is left of a text
pub mod RowLemmas
-- BlockLemmas: blocks and answers, row after row
pub mod BlockLemmas
