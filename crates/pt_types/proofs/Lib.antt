-- LaneLemmas: whether a name may contain all bytes of a load, by the empty mask of those that it
-- may not
pub mod LaneLemmas
-- NameLemmas: which bytes a name may contain, by the table, and names that grow byte by byte
pub mod NameLemmas
