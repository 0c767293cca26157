-- TableLimits: the verdict tables at their limits, from both sides.
use Rattle.std.specs.Prelude.{◌≡◌, ℕ, true, false, Some}
use Rattle.pt_types.specs.declared.call.How.TheVariants.{Plain, Try}
use Rattle.pt_types.specs.declared.call.MutexKind.TheVariants.{Recursive}
use Rattle.pt_types.specs.declared.call.ObjectKind.TheVariants.{Cond, Barrier}
use Rattle.pt_types.specs.declared.outcome.Consistency.TheVariants.{Consistent}
use Rattle.pt_types.specs.declared.outcome.Outcome.TheVariants.{Done, Einval, Ebusy, Eagain}
use Rattle.pt_types.specs.declared.outcome.Verdict.TheVariants.{Reply, Stands}
use Rattle.pt_types.specs.MutexTable.{lock_verdict}
use Rattle.pt_types.specs.declared.views.MutexView.{MutexView}
use Rattle.pt_types.specs.RwlockTable.{read_verdict}
use Rattle.pt_types.specs.declared.views.RwlockView.{RwlockView}
use Rattle.pt_types.specs.ObjectTable.{init_verdict}

-- a RECURSIVE mutex on which client 0 has this many locks
abbrev pub locked : ℕ → MutexView
locked n =
    record {
      kind = Recursive;
      robust = false;
      consistency = Consistent;
      owner = Some 0;
      count = n;
    }

-- a read-write lock on which the caller has this many read locks
abbrev pub read : ℕ → RwlockView
read n = record { writes = false; reads = n; is_written = false; is_read = true }

-- an owner can have 255 locks, and no more  [XSH pthread_mutex_lock, the number is profile]
abbrev pub HasMaxLocks : Type 0
HasMaxLocks =
    (lock_verdict (locked 254) 0 Plain ≡ Reply Done)
    × (lock_verdict (locked 255) 0 Try ≡ Reply Eagain)

-- a client can have 255 read locks, and no more  [XSH pthread_rwlock_rdlock, the number is profile]
abbrev pub HasMaxReads : Type 0
HasMaxReads =
    (read_verdict (read 254) true Plain ≡ Stands)
    × (read_verdict (read 255) false Try ≡ Reply Eagain)

-- 4,096 objects can exist, and no more; a name in use is answered before the limit
abbrev pub HasMaxObjects : Type 0
HasMaxObjects =
    (init_verdict Cond false 4095 ≡ Reply Done)
    × (init_verdict Cond false 4096 ≡ Reply Eagain)
    × (init_verdict Cond true 4096 ≡ Reply Ebusy)

-- a barrier's count is from 1 to 1,024; a bad count is answered before a name in use
abbrev pub HasMaxAtBarrier : Type 0
HasMaxAtBarrier =
    (init_verdict (Barrier 1024) false 0 ≡ Reply Done)
    × (init_verdict (Barrier 1025) true 4096 ≡ Reply Einval)
    × (init_verdict (Barrier 0) false 0 ≡ Reply Einval)
