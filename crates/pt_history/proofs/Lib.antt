-- Counts: the number of outer entries of a stored history
pub mod Counts
-- Places: the places of a stored history
pub mod Places
-- Unchanged: the invariant of a stored history
pub mod Unchanged
-- Growing: what a stored entry appends to the records
pub mod Growing
-- Stable: stored entries stay the same while the records grow
pub mod Stable
-- Names: where the texts of names lie
pub mod Names
-- Room: the room of a stored history
pub mod Room
-- Found: what is read off a stored history
pub mod Found
-- Absent: entries that aren't stored
pub mod Absent
-- Pushed: the room and the memory of a stored history with one more entry
pub mod Pushed
-- Calls: calls as they are stored
pub mod Calls
-- Wholes: entries that are stored whole, if nothing shorter was stored
pub mod Wholes
-- Widened: records whose lists are unchanged, with at least as much memory
pub mod Widened
-- Views: what is seen of a stored history while its fields change
pub mod Views
