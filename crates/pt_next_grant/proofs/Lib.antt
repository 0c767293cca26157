-- BoundMutex: all unmoved waits at a condition wait with one mutex
pub mod BoundMutex
-- ClientCalls: the open call of a client, found by its client
pub mod ClientCalls
-- What an entry touches:
-- Unchanged: if nothing changed at an object, a call that waits there may be served only if it
-- could be before
pub mod Unchanged
-- WokenWaits: which waits a call wakes, and that a wait is served only after it was moved
pub mod WokenWaits
-- TouchedCalls: a call touches the object that its effect is about
pub mod TouchedCalls
-- TouchedGrants: a Grant touches the object at which its call waited
pub mod TouchedGrants
-- TouchedExpiries: an Expire touches the object that its call is for in the end
pub mod TouchedExpiries
-- TouchedEntries: each entry touches one object
pub mod TouchedEntries
-- TouchedServices: all calls that may be served wait at one object, so the next to serve is its
-- first
pub mod TouchedServices
-- What is served at an object:
-- JustCome: a client asks again for a read lock that it holds only with the call that came last
pub mod JustCome
-- ServedFirsts: which call is served at a mutex, a condition or a barrier, given the first call
-- that waits there
pub mod ServedFirsts
-- ServedLocks: which call is served at a read-write lock, given the first call that waits there
pub mod ServedLocks
-- Candidates: the call that is served at an object is its candidate
pub mod Candidates
