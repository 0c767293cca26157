-- LinkLemmas: what is stored of a chain's links as a node is put after the last one or taken out
mod LinkLemmas
-- EndLemmas: a chain, its ends and its count, as a node is added after the last or taken out
mod EndLemmas
-- SortedLemmas: chains in the order of arrival, and the queues that they make
mod SortedLemmas
-- HeadLemmas: the head of a queue, found as the head of a chain
mod HeadLemmas
-- ChainLemmas: what nodes and the ends of chains say of the queues
mod ChainLemmas
-- NodeIndexLemmas: nodes as clients come and go
mod NodeIndexLemmas
-- InsertLemmas: what stays true of nodes and chains as a waiter is put in
mod InsertLemmas
-- PutLemmas: a waiter is put in: what is true of nodes, chains and queues stays true
mod PutLemmas
-- TakeLemmas: a waiter is taken out: what is true of nodes, chains and queues stays true
mod TakeLemmas
-- StepLemmas: a waiter is put in or taken out: from what the calls below promise to what is true of
-- all
mod StepLemmas
-- FirstLemmas: the first of a queue and its writers, found by the counts of its chains
mod FirstLemmas
-- MadeLemmas: queues as they are made and discarded
mod MadeLemmas
-- ReadLemmas: what is read from a list after a write
mod ReadLemmas
-- HighestLemmas: the highest chain that is not empty, as one of the counts changes
mod HighestLemmas
-- BusyLemmas: how many queues have a waiter
mod BusyLemmas
-- BoxLemmas: there are enough boxes for all waiters, as waiters and clients come and go
mod BoxLemmas
-- LoneLemmas: a queue with one chain, which is not put into the queue's box until a waiter of
-- another chain comes
mod LoneLemmas
-- LoneWriters: the writers of a queue with one chain
mod LoneWriters
-- SeenLemmas: what is seen of a queue from its box, and from its lone chain if that is not in the
-- box
mod SeenLemmas
-- EmptiedLemmas: a queue whose last waiter is taken out gives its box back
mod EmptiedLemmas
-- FirstOut: the first of a queue, as it is taken out
mod FirstOut
-- RowLemmas: what is known of a queue's row by its slot
mod RowLemmas
-- RowChanges: a row that is written, added or taken away: what is then true of all rows
mod RowChanges
-- OpenedLemmas: the queues that exist, as one is made, opened or discarded
mod OpenedLemmas
-- OpenedRows: what is read of a queue that exists, from its row or from none
mod OpenedRows
-- GrowthLemmas: what stays true as room is made for one more client or queue
mod GrowthLemmas
-- SlotLemmas: what is read from nodes after one is written
mod SlotLemmas
-- JoinedLemmas: what is done to a queue's box after all its waiters are in it
mod JoinedLemmas
