-- LockClasses: the objects that have a lock of a kind.
use Rattle.std.proofs.Common.{◌≡◌, Option, Some, None}
use Rattle.std.specs.Prelude.{option_map}
use Rattle.pt_types.specs.declared.call.ObjectKind.{ObjectKind}
use Rattle.pt_types.specs.declared.call.ObjectKind.TheVariants as kind_is
use Rattle.pt_types.specs.declared.operations.LockKind.{LockKind}
use Rattle.pt_types.specs.declared.operations.LockKind.TheVariants.{MutexLock, ReadLock, WriteLock}
use Rattle.pt_types.specs.Operations.{class_needed, class_of}

-- whether an object of this kind, if it is known, has such a lock
abbrev pub HasLock : LockKind → Option ObjectKind → Type 0
HasLock MutexLock (Some (kind_is.Mutex q r)) = Unit {0}
HasLock ReadLock (Some kind_is.Rwlock) = Unit {0}
HasLock WriteLock (Some kind_is.Rwlock) = Unit {0}
HasLock _ _ = ⊥

-- an object of the class that a lock needs has one
pub has_lock : (k : LockKind) (o : Option ObjectKind)
    → option_map class_of o ≡ Some (class_needed k) → HasLock k o
has_lock MutexLock (Some (kind_is.Mutex q r)) t = tt
has_lock ReadLock (Some kind_is.Rwlock) t = tt
has_lock WriteLock (Some kind_is.Rwlock) t = tt
has_lock MutexLock None t = absurd cc
has_lock ReadLock None t = absurd cc
has_lock WriteLock None t = absurd cc
has_lock MutexLock (Some kind_is.Rwlock) t = absurd cc
has_lock MutexLock (Some kind_is.Cond) t = absurd cc
has_lock MutexLock (Some (kind_is.Barrier n)) t = absurd cc
has_lock ReadLock (Some (kind_is.Mutex q r)) t = absurd cc
has_lock ReadLock (Some kind_is.Cond) t = absurd cc
has_lock ReadLock (Some (kind_is.Barrier n)) t = absurd cc
has_lock WriteLock (Some (kind_is.Mutex q r)) t = absurd cc
has_lock WriteLock (Some kind_is.Cond) t = absurd cc
has_lock WriteLock (Some (kind_is.Barrier n)) t = absurd cc
