-- Requests: the objects that the names of a call refer to when the call comes.
use Rattle.std.specs.Prelude.{ℕ, ◌≡◌, Option, None}
use Rattle.pt_types.specs.Operations.{Operation, Inits, Ends, Acquires, Unlocks, Restores}
use Rattle.pt_types.specs.Operations.{Rwunlocks, CondWaits, Signals, Broadcasts, BarrierWaits}
use Rattle.pt_types.specs.Operations.{class_needed}
use Rattle.pt_types.specs.declared.operations.ObjectClass.TheVariants.{Mutex as MutexClass}
use Rattle.pt_types.specs.declared.operations.ObjectClass.TheVariants.{Rwlock as RwlockClass}
use Rattle.pt_types.specs.declared.operations.ObjectClass.TheVariants.{Cond as CondClass}
use Rattle.pt_types.specs.declared.operations.ObjectClass.TheVariants.{Barrier as BarrierClass}
use Rattle.pt_model.specs.Histories.{History}
use Rattle.pt_model.specs.Objects.{find_object}
use Rattle.pt_state.specs.declared.request.Request.{Request}

-- the object that the first name of a call refers to, if any; a call that makes an object has none
-- yet  [XSH, the call's page]
abbrev pub object_meant : History → Operation → Option ℕ
object_meant h (Inits n kind) = None
object_meant h (Ends n class) = find_object h n class
object_meant h (Acquires n lock_kind how) = find_object h n (class_needed lock_kind)
object_meant h (Unlocks n) = find_object h n MutexClass
object_meant h (Restores n) = find_object h n MutexClass
object_meant h (Rwunlocks n) = find_object h n RwlockClass
object_meant h (CondWaits n m deadline) = find_object h n CondClass
object_meant h (Signals n) = find_object h n CondClass
object_meant h (Broadcasts n) = find_object h n CondClass
object_meant h (BarrierWaits n) = find_object h n BarrierClass

-- the mutex that the second name of a wait at a condition refers to, if any
-- [XSH pthread_cond_wait]
abbrev pub mutex_meant : History → Operation → Option ℕ
mutex_meant h (CondWaits n m deadline) = find_object h m MutexClass
mutex_meant h (Inits n kind) = None
mutex_meant h (Ends n class) = None
mutex_meant h (Acquires n lock_kind how) = None
mutex_meant h (Unlocks n) = None
mutex_meant h (Restores n) = None
mutex_meant h (Rwunlocks n) = None
mutex_meant h (Signals n) = None
mutex_meant h (Broadcasts n) = None
mutex_meant h (BarrierWaits n) = None

-- the request has the objects that the names of a call with this operation refer to
pub record IsRequest (h : History) (d : Operation) (r : Request) : Type 0 where
  pub object : r.object ≡ object_meant h d
  pub mutex : r.mutex ≡ mutex_meant h d
