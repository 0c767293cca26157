-- Open calls:
-- OpenPlaces: the open call that came at a place: its client made the call whose entry is there
pub mod OpenPlaces
-- OpenPriorities: an open call has the priority of its client
pub mod OpenPriorities
-- ArrivalBounds: each waiting call arrived before the next entry, at an object that exists
pub mod ArrivalBounds
-- PlaceTakes: the open call in a client's row is the call that takes its place in a queue
pub mod PlaceTakes
-- OpenRowCalls: the open call in a client's row, as it is found by its client
pub mod OpenRowCalls
-- CandidateRows: the candidate of an object, as the rows of objects and of clients give it
pub mod CandidateRows
-- ServiceLemmas: what is served first: a full barrier's calls, or a client's open call
pub mod ServiceLemmas
-- LockClasses: the objects that have a lock of a kind
pub mod LockClasses
-- GrantsAtOnce: a call for a free lock, ahead of those that wait for it, is granted as it comes
pub mod GrantsAtOnce
-- SettledGrants: nothing must follow the Grant of a call that is granted as it comes
pub mod SettledGrants
-- SettledArrivals: what must follow an arrival is the Trip of its barrier, or nothing
pub mod SettledArrivals
-- CalmCalls: nothing must follow a call that gives nothing back and leaves no call waiting
pub mod CalmCalls
-- SettledCallLemmas: nothing must follow a call that gives nothing back, or one for a lock that is held
pub mod SettledCallLemmas
-- AnswersAdded: the answers of the entries that were added to a stored history
pub mod AnswersAdded
-- GrantedStates: the tables after a call that is granted as it comes, and after its Grant
pub mod GrantedStates
-- GrantedLocks: calls for each kind of lock that are granted as they come, as the tables have them
pub mod GrantedLocks
-- LastTouches: the object touched, and the client whose call came last, as entries are pushed
pub mod LastTouches
-- TableViews: what the tables answer for the body that has them
pub mod TableViews
-- What a queue answers:
-- Membership: the two definitions of membership in a list, for queues and in general, agree
pub mod Membership
-- QueueClasses: the calls that wait at a condition, and those that wait at a barrier
pub mod QueueClasses
-- QueueReads: the answers of a queue are what the definitions say of the calls that wait there
pub mod QueueReads
-- QueueCounts: a queue has as many waiters as open calls wait at its object
pub mod QueueCounts
-- QueueFirsts: the first of a queue is the first of the calls that wait there
pub mod QueueFirsts
-- QueueAhead: the first of a queue has the greatest priority of those that wait there
pub mod QueueAhead
-- BarrierArrivals: the waiters of a barrier's queue are those of the calls that wait at it
pub mod BarrierArrivals
-- Bindings: a condition's mutex is that of the first wait of its queue
pub mod Bindings
-- Queues after each entry:
-- QueuedSame: queues that are still right, since nothing on which they depend has changed
pub mod QueuedSame
-- QueuedOut: the queues after an entry by which open calls end
pub mod QueuedOut
-- QueuedArrivals: queues before the first entry, as clients join and die, as the clock is read,
-- and at a Yield
pub mod QueuedArrivals
-- QueuedAnswers: pushes of answered calls that change no queue
pub mod QueuedAnswers
-- QueuedCalls: queues after a call that is answered at once: no call comes or goes by it
pub mod QueuedCalls
-- QueuedObjects: pushes that make or end an object: the queues before and after them
pub mod QueuedObjects
-- QueuedWaits: a call that is left waiting takes its place in a queue
pub mod QueuedWaits
-- QueuedMoves: one wait is moved: it leaves its condition's queue, and takes its place in its
-- mutex's
pub mod QueuedMoves
-- QueuedWakes: what a signal and a passed deadline move, and the queues after them
pub mod QueuedWakes
-- Broadcasts: a broadcast moves the waits at its condition, and changes nothing else
pub mod Broadcasts
-- QueuedBroadcast: the queues while a broadcast moves the waits at its condition, one by one in
-- key order
pub mod QueuedBroadcast
-- QueuedForced: the queues of a state after a forced entry
pub mod QueuedForced
-- Deadlines:
-- BadDeadlines: a call whose deadline is not a time is answered at once, or is granted by the next
-- entry
pub mod BadDeadlines
-- BadVerdicts: calls that are left waiting with a deadline that is not a time: those for a lock
-- that is free
pub mod BadVerdicts
-- NoBadDeadlines: if nothing is forced, no open call has a deadline that is not a time
pub mod NoBadDeadlines
-- DueLemmas: the deadlines that are set, and the open call that is overdue first
pub mod DueLemmas
-- TimedSteps: how the deadlines that are set change with one entry
pub mod TimedSteps
-- TimedStates: the deadlines that are set beside a state, as entries are pushed
pub mod TimedStates
-- TimedArrivals: after a Join or a Moment, the same deadlines are set as before
pub mod TimedArrivals
-- TimedCalls: how the deadlines that are set change as a call is left waiting, and as a barrier
-- trips
pub mod TimedCalls
-- TimedMoves: the deadlines that are set after an answered call: all but those of the waits that it
-- moves
pub mod TimedMoves
-- TimerDrops: deadlines that are dropped, row by row
pub mod TimerDrops
-- Seals:
-- SealedQueues: the queues and the deadlines are also those of the seal, if nothing must follow
pub mod SealedQueues
-- SealedMachines: the object touched and the entries reserved after a seal, if nothing must follow
pub mod SealedMachines
-- UnsealedMachines: queues, deadlines and reserved entries that are right for the seal of a history
-- are right for the history
pub mod UnsealedMachines
-- Room:
-- ForcedNeeds: the exact need after a forced entry
pub mod ForcedNeeds
-- NeedLimits: the number of objects is within its limit, and so is the need
pub mod NeedLimits
-- NeedSteps: the number of reserved entries, as entries are pushed
pub mod NeedSteps
-- NeedUses: how many reserved entries a forced entry uses
pub mod NeedUses
-- WaitMoves: no open call but a wait is moved
pub mod WaitMoves
-- Others:
-- NeedsMemory: what follows if a call needs no memory to wait
pub mod NeedsMemory
