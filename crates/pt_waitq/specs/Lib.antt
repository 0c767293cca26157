-- Queues: lists of waiters in key order
pub mod Queues
-- Waits: clients, objects and waiters in any order, and the queues that they form
pub mod Waits
-- Members: queues by which call waits where
pub mod Members
-- WaitLaws: the laws of all queues at once; the lemmas that they need are below
pub mod WaitLaws
pub mod ListLemmas
pub mod OrderLemmas
pub mod QueueLemmas
pub mod WaitingLemmas
