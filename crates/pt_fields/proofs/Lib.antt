-- TestLemmas: tests, and options that have a value
pub mod TestLemmas
-- FieldLemmas: a text and its fields
pub mod FieldLemmas
-- NumberLemmas: numbers and their decimals
pub mod NumberLemmas
-- LaneLemmas: a byte that is searched for in lanes, and in the first bytes of a text
pub mod LaneLemmas
