-- Candidates: the call that is served at an object, found by one look at the object.
use Rattle.std.specs.Prelude.{ℕ, nat_lt, length, ◌==◌, Bool, true, false, ◌&&◌, ◌||◌, Option, Some}
use Rattle.std.specs.Prelude.{None, is_some, is_none, if◌then◌else◌}
use Rattle.std.specs.List.{filter}
use Rattle.pt_types.specs.declared.call.ObjectKind.{ObjectKind}
use Rattle.pt_types.specs.declared.call.ObjectKind.TheVariants.{Mutex, Rwlock, Cond, Barrier}
use Rattle.pt_types.specs.MutexTable.{is_not_recoverable, is_recursive}
use Rattle.pt_model.specs.declared.entry.Entry.{Entry}
use Rattle.pt_model.specs.declared.entry.Entry.TheVariants.{Call}
use Rattle.pt_model.specs.Searches.{least}
use Rattle.pt_model.specs.Histories.{History, Begin, ◌▷◌, is_forced}
use Rattle.pt_model.specs.Objects.{kind_of, mutex_kind}
use Rattle.pt_model.specs.declared.waiting_call.WaitingCall.{WaitingCall}
use Rattle.pt_model.specs.declared.waiting_call.Role.{Role}
use Rattle.pt_model.specs.declared.waiting_call.Role.TheVariants.{ForRead}
use Rattle.pt_model.specs.WaitingCall.{is_cond_wait, is_write_lock}
use Rattle.pt_model.specs.Answers.{open_calls, at_barrier}
use Rattle.pt_model.specs.Moves.{is_moved, waiting_at, wait_object, precedes}
use Rattle.pt_model.specs.Mutexes.{owner, consistency}
use Rattle.pt_model.specs.Rwlocks.{read_count, write_holder, first_reader}
use Rattle.pt_model.specs.Forced.{can_be_served}
use Rattle.pt_model.specs.Queries.{client_of_found}
use Rattle.pt_next_grant.specs.Touched.{open_call_of}

-- the call that is served at an object: the first of those that may be served there  [XSH 2.8.4]
abbrev pub served_call : History → ℕ → Option WaitingCall
served_call h o = least (precedes h) (filter (can_be_served h) (waiting_at h o))

-- the first call that waits at an object  [XSH 2.8.4]
abbrev pub first_at : History → ℕ → Option WaitingCall
first_at h o = least (precedes h) (waiting_at h o)

-- whether a call is for a read lock  [XSH pthread_rwlock_rdlock]
abbrev pub is_read_lock : Role → Bool
is_read_lock ForRead = true
is_read_lock _ = false

-- whether a call is for a read lock and its client holds one there already
-- [XSH pthread_rwlock_rdlock]
abbrev pub is_read_relock : History → WaitingCall → Bool
is_read_relock h w = is_read_lock w.role && nat_lt 0 (read_count h w.object w.client)

-- the client whose call came last, until the next event
abbrev pub latest_caller_by : Entry → Option ℕ → Option ℕ
latest_caller_by (Call c call r) before = Some c
latest_caller_by e before = if is_forced e then before else None

-- the client whose call came last; at a Start, the one that asks for a read lock again
abbrev pub latest_caller : History → Option ℕ
latest_caller (Begin s) =
    client_of_found (least (precedes (Begin s)) (filter (is_read_relock (Begin s)) (open_calls
    (Begin s))))
latest_caller (h ▷ e) = latest_caller_by e (latest_caller h)

-- the open call of a client, if one was found
abbrev pub open_call_if : History → Option ℕ → Option WaitingCall
open_call_if h None = None
open_call_if h (Some c) = open_call_of h c

-- a call that was found, if it passes a test
abbrev pub if_passes : (WaitingCall → Bool) → Option WaitingCall → Option WaitingCall
if_passes test None = None
if_passes test (Some w) = if test w then Some w else None

-- whether there is a call and it is for a write lock  [XSH pthread_rwlock_wrlock]
abbrev pub is_write_if : Option WaitingCall → Bool
is_write_if None = false
is_write_if (Some w) = is_write_lock w.role

-- whether a call is a wait that has come back to this mutex, and the mutex is RECURSIVE
-- [XSH pthread_cond_wait]
abbrev pub is_back_at_mutex : History → ℕ → WaitingCall → Bool
is_back_at_mutex h o w =
    (wait_object h w == o)
    && (is_recursive (mutex_kind (kind_of h o)) && (is_cond_wait w.role && is_moved h w))

-- whether a call waits at this lock for a read lock that its client holds already
-- [XSH pthread_rwlock_rdlock]
abbrev pub is_read_relock_at : History → ℕ → WaitingCall → Bool
is_read_relock_at h o w = (wait_object h w == o) && is_read_relock h w

-- the call that is served at a mutex: the first, if nobody owns it or it is lost, else the owner's
-- open call, if that is a wait that has come back  [XSH pthread_mutex_unlock, pthread_cond_wait]
abbrev pub mutex_candidate : History → ℕ → Option WaitingCall
mutex_candidate h m =
    if is_not_recoverable (consistency h m) || is_none (owner h m) then first_at h m
    else if_passes (is_back_at_mutex h m) (open_call_if h (owner h m))

-- the call that is served at a read-write lock: none if a client holds the write lock; else the
-- first, unless that is a writer's and clients hold read locks; then the call that came last, if it
-- asks for a read lock that its client holds already
-- [XSH pthread_rwlock_unlock, pthread_rwlock_rdlock]
abbrev pub rwlock_candidate : History → ℕ → Option WaitingCall
rwlock_candidate h r =
    if is_some (write_holder h r) then None
    else (if is_some (first_reader h r) && is_write_if (first_at h r)
    then if_passes (is_read_relock_at h r) (open_call_if h (latest_caller h)) else first_at h r)

-- the call that is served at an object of this kind; at a barrier the first, if it is full
-- [XSH pthread_barrier_wait, pthread_cond_wait]
abbrev pub candidate_by : History → ℕ → Option ObjectKind → Option WaitingCall
candidate_by h o None = None
candidate_by h o (Some (Mutex kind robust)) = mutex_candidate h o
candidate_by h o (Some Rwlock) = rwlock_candidate h o
candidate_by h o (Some Cond) = None
candidate_by h o (Some (Barrier n)) =
    if length (at_barrier o (open_calls h)) == n then first_at h o else None

-- the call that is served at an object  [XSH, the object's pages]
abbrev pub candidate : History → ℕ → Option WaitingCall
candidate h o = candidate_by h o (kind_of h o)

-- the candidate of an object, if one was found
abbrev pub candidate_if : History → Option ℕ → Option WaitingCall
candidate_if h None = None
candidate_if h (Some o) = candidate h o
