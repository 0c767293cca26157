-- BlockLemmas: counts in blocks: the mask of a block, and what blocks and the rest say of the
-- whole
pub mod BlockLemmas
-- SetLemmas: counts that aren't zero, found by a test of each count
pub mod SetLemmas
