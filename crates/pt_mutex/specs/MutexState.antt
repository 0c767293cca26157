-- MutexState: a mutex with the waits that are bound to it, and each change of it.
use Rattle.std.specs.Prelude.{ℕ, Bool, ◌+◌, ◌-◌, ◌&&◌, ◌||◌, nat_lt, Some, None, is_none, is_some}
use Rattle.std.specs.Prelude.{if◌then◌else◌}
use Rattle.pt_types.specs.Limits.{max_locks}
use Rattle.pt_types.specs.MutexTable.{owns, is_recursive, after_release, after_yield}
use Rattle.pt_types.specs.MutexTable.{after_consistent}
use Rattle.pt_types.specs.declared.views.MutexView.{MutexView}
use Rattle.pt_types.specs.declared.call.MutexKind.{MutexKind}
use Rattle.pt_types.specs.declared.outcome.Consistency.{Consistency}
use Rattle.pt_types.specs.declared.outcome.Consistency.TheVariants.{Consistent}

-- a mutex as its tables see it, and the number of waits that released it and have not been moved
-- yet  [XSH pthread_cond_wait]
pub record MutexState : Type 0 where
  pub view : MutexView
  pub bound_waits : ℕ

-- a mutex as it is made: consistent, and owned by nobody  [XSH pthread_mutex_init]
abbrev pub new_mutex : MutexKind → (robust : Bool) → MutexState
new_mutex kind robust = record {
  view = record { kind = kind; robust = robust; consistency = Consistent; owner = None; count = 0 };
  bound_waits = 0;
}

-- whether a client can be given the lock: nobody has it, or the client may lock it once more
-- [XSH pthread_mutex_lock, PTHREAD_MUTEX_RECURSIVE]
abbrev pub can_acquire : MutexView → (client : ℕ) → Bool
can_acquire m c =
    is_none m.owner || (owns m c && (is_recursive m.kind && nat_lt m.count max_locks))

-- the mutex once the client has one more lock; before its first one the count is 0
-- [XSH pthread_mutex_lock]
abbrev pub mutex_after_acquire : MutexView → (client : ℕ) → MutexView
mutex_after_acquire m c = record m { owner = Some c; count = m.count + 1 }

-- the mutex with this consistency and without an owner  [XSH pthread_mutex_unlock]
abbrev pub mutex_without_owner : MutexView → Consistency → MutexView
mutex_without_owner m consistency = record m { consistency = consistency; owner = None; count = 0 }

-- the mutex after its owner gave back one lock, and with the last one the mutex itself
-- [XSH pthread_mutex_unlock]
abbrev pub mutex_after_release : MutexView → MutexView
mutex_after_release m =
    if nat_lt 1 m.count then record m { count = m.count - 1 }
    else mutex_without_owner m (after_release m.consistency)

-- the mutex after it was taken from its dead owner  [XSH pthread_mutex_lock, EOWNERDEAD]
abbrev pub mutex_after_yield : MutexView → MutexView
mutex_after_yield m = mutex_without_owner m (after_yield m.consistency)

-- the mutex after `consistent` put what it guards in order  [XSH pthread_mutex_consistent]
abbrev pub mutex_after_consistent : MutexView → MutexView
mutex_after_consistent m = record m { consistency = after_consistent m.consistency }

-- whether the mutex can't be destroyed: a living client owns it, a call waits at it, or a wait is
-- bound to it  [XSH pthread_mutex_destroy]
abbrev pub is_mutex_busy : MutexState → (owner_lives awaited : Bool) → Bool
is_mutex_busy m owner_lives awaited =
    (is_some m.view.owner && owner_lives) || (awaited || nat_lt 0 m.bound_waits)
