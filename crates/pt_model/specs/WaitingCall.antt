-- WaitingCall: the calls that came without a reply, as they were entered.
use Rattle.std.specs.Prelude.{ℕ, zero, suc, ◌==◌, Bool, true, false, List, [], ◌∷◌, ◌++◌, Option}
use Rattle.std.specs.Prelude.{Some, None, unwrap_or, option_map, if◌then◌else◌}
use Rattle.pt_types.specs.Times.{Timespec, deadline_nanos}
use Rattle.pt_types.specs.declared.time.Clock.{Clock}
use Rattle.pt_types.specs.Operations.{Operation, Acquires, CondWaits, BarrierWaits, operation}
use Rattle.pt_types.specs.Operations.{clock_of}
use Rattle.pt_types.specs.Operations.{class_needed, deadline_of}
use Rattle.pt_types.specs.declared.operations.ObjectClass.{ObjectClass}
use Rattle.pt_types.specs.declared.operations.ObjectClass.TheVariants.{Mutex as MutexClass}
use Rattle.pt_types.specs.declared.operations.ObjectClass.TheVariants.{Cond as CondClass}
use Rattle.pt_types.specs.declared.operations.ObjectClass.TheVariants.{Barrier as BarrierClass}
use Rattle.pt_types.specs.declared.operations.LockKind.{LockKind}
use Rattle.pt_types.specs.declared.operations.LockKind.TheVariants.{MutexLock, ReadLock, WriteLock}
use Rattle.pt_model.specs.declared.entry.Entry.{Entry}
use Rattle.pt_model.specs.declared.entry.Entry.TheVariants.{Call}
use Rattle.pt_model.specs.declared.waiting_call.WaitingCall.{WaitingCall}
use Rattle.pt_model.specs.declared.waiting_call.Role.{Role}
use Rattle.pt_model.specs.declared.waiting_call.Role.TheVariants.{ForMutex, ForRead, ForWrite}
use Rattle.pt_model.specs.declared.waiting_call.Role.TheVariants.{ForBarrier, ForCond}
use Rattle.pt_model.specs.Histories.{History, Begin, ◌▷◌, place}
use Rattle.pt_model.specs.Clients.{client_priority}
use Rattle.pt_model.specs.Objects.{find_object}

-- the role of a call for a lock
abbrev pub role_of_lock : LockKind → Role
role_of_lock MutexLock = ForMutex
role_of_lock ReadLock = ForRead
role_of_lock WriteLock = ForWrite

-- the object that a name means as the call comes; 0 if it means none
abbrev pub object_or_zero : History → List ℕ → ObjectClass → ℕ
object_or_zero h n class = unwrap_or (find_object h n class) 0

-- a client's waiting call that is entered at the next place
abbrev pub new_waiting_call : History → ℕ → ℕ → Role → Clock → Option Timespec → WaitingCall
new_waiting_call h c object role clock deadline =
    record {
      place = place h;
      client = c;
      priority = unwrap_or (client_priority h c) 0;
      object = object;
      role = role;
      clock = clock;
      deadline = option_map deadline_nanos deadline;
    }

-- the call that a client's operation leaves waiting, if it leaves one
-- [XSH pthread_mutex_lock, pthread_cond_wait]
abbrev pub waiting_calls_by_operation : History → ℕ → Clock → Operation → List WaitingCall
waiting_calls_by_operation h c k (Acquires n lock_kind how) =
    new_waiting_call h c (object_or_zero h n (class_needed lock_kind)) (role_of_lock lock_kind) k
    (deadline_of how) ∷ []
waiting_calls_by_operation h c k (CondWaits n m deadline) =
    new_waiting_call h c (object_or_zero h n CondClass) (ForCond
    (object_or_zero h m MutexClass)) k deadline ∷ []
waiting_calls_by_operation h c k (BarrierWaits n) = new_waiting_call h c
    (object_or_zero h n BarrierClass) ForBarrier k None ∷ []
waiting_calls_by_operation h c k _ = []

-- the call that an entry leaves waiting, if it leaves one
abbrev pub waiting_calls_by : History → Entry → List WaitingCall
waiting_calls_by h (Call c call None) = waiting_calls_by_operation h c (clock_of call)
    (operation call)
waiting_calls_by h _ = []

-- the list of a call, if there is one, with this place
abbrev pub waiting_call_list : ℕ → Option WaitingCall → List WaitingCall
waiting_call_list n None = []
waiting_call_list n (Some w) = record w { place = n } ∷ []

-- the calls at the places below n, in order
abbrev pub calls_below : (ℕ → Option WaitingCall) → ℕ → List WaitingCall
calls_below call zero = []
calls_below call (suc n) = calls_below call n ++ waiting_call_list n (call n)

-- the open calls of the Start, and all that came since without a reply, in order of their places
abbrev pub waiting_calls : History → List WaitingCall
waiting_calls (Begin s) = calls_below s.call s.at
waiting_calls (h ▷ e) = waiting_calls h ++ waiting_calls_by h e

-- the call of a list that came at place j
abbrev pub call_at_place : ℕ → List WaitingCall → Option WaitingCall
call_at_place j [] = None
call_at_place j (w ∷ ws) = if w.place == j then Some w else call_at_place j ws

-- whether a call is for a barrier  [XSH pthread_barrier_wait]
abbrev pub is_barrier_wait : Role → Bool
is_barrier_wait ForBarrier = true
is_barrier_wait _ = false

-- whether the role is that of a wait  [XSH pthread_cond_wait]
abbrev pub is_cond_wait : Role → Bool
is_cond_wait (ForCond m) = true
is_cond_wait _ = false

-- whether the role is that of a call for a write lock  [XSH pthread_rwlock_wrlock]
abbrev pub is_write_lock : Role → Bool
is_write_lock ForWrite = true
is_write_lock _ = false

-- the mutex for which a call waits in the end: the object of a call for a mutex, or the mutex of a
-- wait  [XSH pthread_mutex_lock, pthread_cond_wait]
abbrev pub final_mutex : Role → ℕ → Option ℕ
final_mutex ForMutex object = Some object
final_mutex (ForCond m) object = Some m
final_mutex _ object = None

-- whether there is a call and it is a wait  [XSH pthread_cond_wait]
abbrev pub is_cond_wait_if : Option WaitingCall → Bool
is_cond_wait_if None = false
is_cond_wait_if (Some w) = is_cond_wait w.role
