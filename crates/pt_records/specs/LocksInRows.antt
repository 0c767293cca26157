-- LocksInRows: the mutex or the read-write lock in the row of an object.
use Rattle.std.specs.Prelude.{Option, Some, None}
use Rattle.pt_mutex.specs.MutexState.{MutexState}
use Rattle.pt_rwlock.specs.RwlockState.{RwlockState}
use Rattle.pt_records.specs.declared.objects.Object.{Object}
use Rattle.pt_records.specs.declared.objects.Object.TheVariants.{Mutex, Rwlock}

module _ {A : Type 0} where
  -- the mutex in a row, if the row has one  [XSH 2.9.3]
  abbrev pub mutex_in : Option (Object A) → Option MutexState
  mutex_in (Some (Mutex m)) = Some m
  mutex_in _ = None

  -- the read-write lock in a row, if the row has one  [XSH 2.9]
  abbrev pub rwlock_in : Option (Object A) → Option RwlockState
  rwlock_in (Some (Rwlock r)) = Some r
  rwlock_in _ = None
