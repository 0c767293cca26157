-- Lookups: look-ups in lists of entries, and what an added or a removed entry changes in them
mod Lookups
-- Listed: the rows that are listed: a look-up by number goes through the listed slots
mod Listed
-- Packed: numbers whose rows are gone are dropped, or skipped to find the row at an index
mod Packed
-- Added: adding a row: a new row in a vacant slot is the last one that is listed
mod Added
-- Written: changing a row in its slot, if the row keeps its number
mod Written
-- Removed: taking a row out: its slot is empty, and its number leads to no row
mod Removed
-- Named: the names of the listed rows: a look-up by name goes through the map of names
mod Named
-- Links: what writing a link changes in the rows, and in what each leads to
mod Links
-- Chained: what the numbers of a chain lead to, as one is put in or taken out
mod Chained
-- Entered: a number that is put first in a chain: what leads to what, before and after
mod Entered
-- Taken: a number that is taken out of a chain: what leads to what, before and after
mod Taken
-- Counted: the length of a chain: at most the number of rows
mod Counted
-- Members: the numbers of a list, of two lists, of a list in another order, and of one that rises
mod Members
-- Walked: a chain that is followed some steps from its head
mod Walked
-- Gathered: the numbers of a chain, read one by one from its head
mod Gathered
-- Relinked: rows that are linked anew in the order of their numbers, the last one first
mod Relinked
-- Sorted: a chain whose numbers are gathered, sorted, and linked anew
mod Sorted
-- ChainCallers: for callers: what changes in chains and rows as rows are linked, written, added or
-- taken out
pub mod ChainCallers
-- Kept: what is true of a table whose rows and numbers are unchanged
mod Kept
