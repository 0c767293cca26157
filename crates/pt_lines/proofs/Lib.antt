-- CutLemmas: the lines of bytes, by the first bytes of a line
pub mod CutLemmas
-- DigitLemmas: a number's digits, two at a time
pub mod DigitLemmas
-- AppendLemmas: bytes that are appended one piece after another
pub mod AppendLemmas
-- FrontLemmas: the front of the bytes that a cutter holds, and the bytes that remain after it
pub mod FrontLemmas
