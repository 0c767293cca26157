pub mod Links
-- Chains: what nodes and the ends of chains say about the queued waiters
pub mod Chains
-- Highest: the highest chain of one kind that is not empty
pub mod Highest
-- Boxes: which queues have a box, and the number of boxes
pub mod Boxes
-- OpenQueues: the queues that exist, each with the chains of its row, if it has one
pub mod OpenQueues
-- Rows: the chains of queues, each in a slot, and the slots by the queues' numbers
pub mod Rows
