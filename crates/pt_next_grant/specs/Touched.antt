-- Touched: the one object at which an entry can let a waiting call go on.
use Rattle.std.specs.Prelude.{ℕ, Option, Some, None}
use Rattle.std.specs.List.{filter}
use Rattle.pt_types.specs.declared.outcome.Outcome.TheVariants.{Done}
use Rattle.pt_types.specs.Operations.{Operation, Acquires, Unlocks, Rwunlocks, CondWaits, Signals}
use Rattle.pt_types.specs.Operations.{Broadcasts, BarrierWaits, operation, class_needed}
use Rattle.pt_types.specs.declared.operations.ObjectClass.TheVariants.{Mutex as MutexClass}
use Rattle.pt_types.specs.declared.operations.ObjectClass.TheVariants.{Rwlock as RwlockClass}
use Rattle.pt_types.specs.declared.operations.ObjectClass.TheVariants.{Cond as CondClass}
use Rattle.pt_types.specs.declared.operations.ObjectClass.TheVariants.{Barrier as BarrierClass}
use Rattle.pt_model.specs.declared.entry.Entry.{Entry}
use Rattle.pt_model.specs.declared.entry.Entry.TheVariants.{Call, Death, Grant, Yield, Expire}
use Rattle.pt_model.specs.Searches.{least}
use Rattle.pt_model.specs.Histories.{History, Begin, ◌▷◌}
use Rattle.pt_model.specs.Objects.{find_object}
use Rattle.pt_model.specs.declared.waiting_call.WaitingCall.{WaitingCall}
use Rattle.pt_model.specs.declared.waiting_call.Role.{Role}
use Rattle.pt_model.specs.declared.waiting_call.Role.TheVariants.{ForCond}
use Rattle.pt_model.specs.WaitingCall.{object_or_zero, waiting_calls, call_at_place}
use Rattle.pt_model.specs.Answers.{open_calls, open_place}
use Rattle.pt_model.specs.Moves.{waiting_at, wait_object}
use Rattle.pt_model.specs.Verdicts.{bound_mutex}
use Rattle.pt_model.specs.Forced.{is_served_before, can_be_served}

-- the object at which a call waits in the end: for a wait its mutex, else the object that it names
-- [XSH pthread_cond_wait]
abbrev pub goal : Role → ℕ → ℕ
goal (ForCond m) object = m
goal _ object = object

-- the object at which a call waits in the end, read off its operation as it comes, if the call is
-- left waiting  [XSH pthread_mutex_lock, pthread_cond_wait, pthread_barrier_wait]
abbrev pub goal_of_operation : History → Operation → Option ℕ
goal_of_operation h (Acquires n lock_kind how) = Some (object_or_zero h n (class_needed lock_kind))
goal_of_operation h (CondWaits n m deadline) = Some (object_or_zero h m MutexClass)
goal_of_operation h (BarrierWaits n) = Some (object_or_zero h n BarrierClass)
goal_of_operation h _ = None

-- the goal of a call, if one was found
abbrev pub goal_if : Option WaitingCall → Option ℕ
goal_if None = None
goal_if (Some w) = Some (goal w.role w.object)

-- the object at which a call waits, if one was found
abbrev pub object_if : History → Option WaitingCall → Option ℕ
object_if h None = None
object_if h (Some w) = Some (wait_object h w)

-- the call at a place, if one was found
abbrev pub waiting_if : History → Option ℕ → Option WaitingCall
waiting_if h None = None
waiting_if h (Some j) = call_at_place j (waiting_calls h)

-- the open call of a client, if it has one  [XSH, the call's page]
abbrev pub open_call_of : History → ℕ → Option WaitingCall
open_call_of h c = waiting_if h (open_place h c)

-- the mutex to which a condition is bound, if one was found  [XSH pthread_cond_wait]
abbrev pub bound_if : History → Option ℕ → Option ℕ
bound_if h None = None
bound_if h (Some q) = bound_mutex (waiting_at h q)

-- the object that an operation that was answered 0 touches
-- [XSH pthread_mutex_unlock, pthread_cond_signal]
abbrev pub touched_by_operation : History → Operation → Option ℕ
touched_by_operation h (Unlocks n) = find_object h n MutexClass
touched_by_operation h (Rwunlocks n) = find_object h n RwlockClass
touched_by_operation h (Signals n) = bound_if h (find_object h n CondClass)
touched_by_operation h (Broadcasts n) = bound_if h (find_object h n CondClass)
touched_by_operation h _ = None

-- the one object at which an entry can let a call go on that could not before: the one at which a
-- lock is given back, a call leaves or a call comes
-- [XSH pthread_mutex_unlock, pthread_rwlock_unlock, pthread_cond_signal, pthread_barrier_wait]
abbrev pub service_object_by : History → Entry → Option ℕ
service_object_by h (Call c call None) = goal_of_operation h (operation call)
service_object_by h (Call c call (Some Done)) = touched_by_operation h (operation call)
service_object_by h (Death c) = object_if h (open_call_of h c)
service_object_by h (Grant j x) = object_if h (call_at_place j (waiting_calls h))
service_object_by h (Yield m) = Some m
service_object_by h (Expire j) = goal_if (call_at_place j (waiting_calls h))
service_object_by h _ = None

-- the object that is touched after an entry; a Grant changes nothing, since the next call to serve
-- waits at the same object
abbrev pub service_object_after : History → Entry → Option ℕ → Option ℕ
service_object_after h (Grant j x) before = before
service_object_after h e before = service_object_by h e

-- the call that is served next, if there is one
-- [XSH pthread_mutex_unlock, the lowest first is profile]
abbrev pub next_service : History → Option WaitingCall
next_service h = least (is_served_before h) (filter (can_be_served h) (open_calls h))

-- the one object at which a call may be served now, if any call may
abbrev pub service_object : History → Option ℕ
service_object (Begin s) = object_if (Begin s) (next_service (Begin s))
service_object (h ▷ e) = service_object_after h e (service_object h)
