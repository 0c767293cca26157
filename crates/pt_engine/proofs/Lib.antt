-- Counted: counts of lines, and look-ups, after one more row
pub mod Counted
-- Rows: rows of names after one was written
mod Rows
-- Texts: texts of answers
mod Texts
-- WaitingLines: the answers that remain from an index on
mod WaitingLines
-- Opened: the core to which an event's entries are added: what holds of a core and of its seal
pub mod Opened
-- Accepted: what is written for an event: it is refused or accepted
pub mod Accepted
-- Lines: what is written for a line after it is counted
mod Lines
-- Runs: lines one after another: what is written for them, and how many there are
pub mod Runs
-- Answered: what holds of each answer that an entry gives
mod Answered
-- Callers: who made the call of each answer
pub mod Callers
-- Followers: the entries that follow an event's entry have no event
pub mod Followers
-- CallLines: the line that made a call is found at its place after it is noted
pub mod CallLines
-- Later: what holds of the calls that are open after an event's entry holds of those answered later
mod Later
-- Waiting: the line of a call that is open after an event's entry is the event's own line, or is
-- stored
mod Waiting
-- PendingLineLemmas: each answer is under the event's own line or the one that is stored for its client
mod PendingLineLemmas
-- CallerOnly: an event that no entry follows answers its own call, or none
mod CallerOnly
-- Stays: what holds of an engine whose core and stored lines are unchanged
mod Stays
-- Raised: what is counted after one more line came
mod Raised
-- Keys: rows that are found by their keys after one is written or added
mod Keys
