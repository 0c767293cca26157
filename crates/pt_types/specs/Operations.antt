-- Operations: the 29 call words, by what they do. No other definition has 29 cases.
use Rattle.std.specs.Prelude.{ℕ, Bool, true, false, List, Option, Some, None}
use Rattle.pt_types.specs.Times.{Timespec}
use Rattle.pt_types.specs.declared.call.Call.{Call}
use Rattle.pt_types.specs.declared.call.Call.TheVariants.{MutexInit, Lock, Trylock, Timedlock}
use Rattle.pt_types.specs.declared.call.Call.TheVariants.{Clocklock, Unlock, Consistent}
use Rattle.pt_types.specs.declared.call.Call.TheVariants.{MutexDestroy, RwlockInit, Rdlock}
use Rattle.pt_types.specs.declared.call.Call.TheVariants.{Tryrdlock, Timedrdlock, Clockrdlock}
use Rattle.pt_types.specs.declared.call.Call.TheVariants.{Wrlock, Trywrlock, Timedwrlock}
use Rattle.pt_types.specs.declared.call.Call.TheVariants.{Clockwrlock, Rwunlock, RwlockDestroy}
use Rattle.pt_types.specs.declared.call.Call.TheVariants.{CondInit, CondDestroy, Wait, Timedwait}
use Rattle.pt_types.specs.declared.call.Call.TheVariants.{Clockwait, Signal, Broadcast, BarrierInit}
use Rattle.pt_types.specs.declared.call.Call.TheVariants.{Bwait, BarrierDestroy}
use Rattle.pt_types.specs.declared.time.Clock.{Clock}
use Rattle.pt_types.specs.declared.time.Clock.TheVariants.{Real, Mono}
use Rattle.pt_types.specs.declared.call.How.{How}
use Rattle.pt_types.specs.declared.call.How.TheVariants.{Plain, Try, Timed}
use Rattle.pt_types.specs.declared.call.ObjectKind.{ObjectKind}
use Rattle.pt_types.specs.declared.call.ObjectKind.TheVariants.{Mutex, Rwlock, Cond, Barrier}
use Rattle.pt_types.specs.declared.operations.LockKind.{LockKind}
use Rattle.pt_types.specs.declared.operations.LockKind.TheVariants.{MutexLock, ReadLock, WriteLock}
use Rattle.pt_types.specs.declared.operations.ObjectClass.{ObjectClass}
use Rattle.pt_types.specs.declared.operations.ObjectClass.TheVariants.{Mutex as MutexClass}
use Rattle.pt_types.specs.declared.operations.ObjectClass.TheVariants.{Rwlock as RwlockClass}
use Rattle.pt_types.specs.declared.operations.ObjectClass.TheVariants.{Cond as CondClass}
use Rattle.pt_types.specs.declared.operations.ObjectClass.TheVariants.{Barrier as BarrierClass}

-- the class of an object of this kind  [XSH 2.9]
abbrev pub class_of : ObjectKind → ObjectClass
class_of (Mutex kind robust) = MutexClass
class_of Rwlock = RwlockClass
class_of Cond = CondClass
class_of (Barrier count) = BarrierClass

-- whether two classes are the same
abbrev pub same_class : ObjectClass → ObjectClass → Bool
same_class MutexClass MutexClass = true
same_class RwlockClass RwlockClass = true
same_class CondClass CondClass = true
same_class BarrierClass BarrierClass = true
same_class _ _ = false

-- the class of the objects that have such a lock  [XSH 2.9]
abbrev pub class_needed : LockKind → ObjectClass
class_needed MutexLock = MutexClass
class_needed ReadLock = RwlockClass
class_needed WriteLock = RwlockClass

-- what a call does, with the names of its objects  [XSH, the call's page]
pub data Operation : Type 0 where
  Inits : List ℕ → ObjectKind → Operation
  Ends : List ℕ → ObjectClass → Operation
  Acquires : List ℕ → LockKind → How → Operation
  Unlocks : List ℕ → Operation
  Restores : List ℕ → Operation
  Rwunlocks : List ℕ → Operation
  CondWaits : List ℕ → List ℕ → Option Timespec → Operation
  Signals : List ℕ → Operation
  Broadcasts : List ℕ → Operation
  BarrierWaits : List ℕ → Operation

-- what each call word does, as the page of its function says  [XSH, the call's page]
abbrev pub operation : Call → Operation
operation (MutexInit n kind robust) = Inits n (Mutex kind robust)
operation (Lock n) = Acquires n MutexLock Plain
operation (Trylock n) = Acquires n MutexLock Try
operation (Timedlock n d) = Acquires n MutexLock (Timed d)
operation (Clocklock n k d) = Acquires n MutexLock (Timed d)
operation (Unlock n) = Unlocks n
operation (Consistent n) = Restores n
operation (MutexDestroy n) = Ends n MutexClass
operation (RwlockInit n) = Inits n Rwlock
operation (Rdlock n) = Acquires n ReadLock Plain
operation (Tryrdlock n) = Acquires n ReadLock Try
operation (Timedrdlock n d) = Acquires n ReadLock (Timed d)
operation (Clockrdlock n k d) = Acquires n ReadLock (Timed d)
operation (Wrlock n) = Acquires n WriteLock Plain
operation (Trywrlock n) = Acquires n WriteLock Try
operation (Timedwrlock n d) = Acquires n WriteLock (Timed d)
operation (Clockwrlock n k d) = Acquires n WriteLock (Timed d)
operation (Rwunlock n) = Rwunlocks n
operation (RwlockDestroy n) = Ends n RwlockClass
operation (CondInit n) = Inits n Cond
operation (CondDestroy n) = Ends n CondClass
operation (Wait n m) = CondWaits n m None
operation (Timedwait n m d) = CondWaits n m (Some d)
operation (Clockwait n m k d) = CondWaits n m (Some d)
operation (Signal n) = Signals n
operation (Broadcast n) = Broadcasts n
operation (BarrierInit n count) = Inits n (Barrier count)
operation (Bwait n) = BarrierWaits n
operation (BarrierDestroy n) = Ends n BarrierClass

-- the clock of a call's deadline; a call that names none uses the real one, which is profile for
-- conditions  [XSH pthread_mutex_clocklock, pthread_cond_clockwait, pthread_rwlock_clockrdlock]
abbrev pub clock_of : Call → Clock
clock_of (Clocklock n k d) = k
clock_of (Clockrdlock n k d) = k
clock_of (Clockwrlock n k d) = k
clock_of (Clockwait n m k d) = k
clock_of _ = Real

-- whether two clocks are the same
abbrev pub same_clock : Clock → Clock → Bool
same_clock Real Real = true
same_clock Mono Mono = true
same_clock _ _ = false

-- whether a call for a lock never waits  [XSH pthread_mutex_trylock, pthread_rwlock_tryrdlock]
abbrev pub is_try : How → Bool
is_try Try = true
is_try _ = false

-- the deadline of a call for a lock, if it has one  [XSH pthread_mutex_timedlock]
abbrev pub deadline_of : How → Option Timespec
deadline_of (Timed d) = Some d
deadline_of _ = None
