-- AwaitedLock: a read-write lock with its waiting writers.
use Rattle.std.specs.Prelude.{ℕ, ◌≡◌, ◌<◌, ◌≤◌, length, Bool, ◌-◌, ◌==◌, ◌↔◌, IsTrue, List}
use Rattle.std.specs.Prelude.{if◌then◌else◌, replicate, slice_index, slice_set}
use Rattle.pt_lanes.specs.Counts.{AnyFrom}
use Rattle.pt_types.specs.Limits.{max_priority}
use Rattle.pt_rwlock.specs.RwlockState.{RwlockState, new_rwlock}

-- the holders of the lock, and the number of writers that wait at each priority, that of priority p
-- at index p - 1  [XSH pthread_rwlock_rdlock]
pub record AwaitedLock : Type 0 where
  pub lock : RwlockState
  pub waiting : List ℕ

-- a lock as it is made: nobody holds it, and no priority has a waiting writer
-- [XSH pthread_rwlock_init]
abbrev pub awaited_by_none : AwaitedLock
awaited_by_none = record { lock = new_rwlock; waiting = replicate max_priority 0 }

-- the lock with these holders, and with as many waiting writers as before
abbrev pub with_lock : AwaitedLock → RwlockState → AwaitedLock
with_lock r l = record r { lock = l }

-- the truth value says whether a writer of this priority or a higher one waits
-- [XSH pthread_rwlock_rdlock]
abbrev pub SaysBlocked : AwaitedLock → (priority : ℕ) → Bool → Type 0
SaysBlocked r p blocked = IsTrue blocked ↔ AnyFrom r.waiting (p - 1)

-- the number of writers of this priority that wait  [XSH pthread_rwlock_rdlock]
abbrev pub writers_at : AwaitedLock → (priority : ℕ) → ℕ
writers_at r p = slice_index r.waiting (p - 1)

-- a writer of this priority or a higher one waits exactly if one of these priorities has a count
-- above 0  [XSH pthread_rwlock_rdlock]
abbrev pub BlockedByCounts : Type 0
BlockedByCounts = (r : AwaitedLock) (p : ℕ) → length r.waiting ≡ max_priority → 1 ≤ p
    → AnyFrom r.waiting (p - 1) ↔ ((q : ℕ) × (p ≤ q) × (q ≤ max_priority) × (0 < writers_at r q))

-- the lock with this number of waiting writers of this priority, and of each other one as many as
-- before
abbrev pub with_writers : AwaitedLock → (priority : ℕ) → ℕ → AwaitedLock
with_writers r p n = record r { waiting = slice_set r.waiting (p - 1) n }

-- this priority has the new count of waiting writers, and each other priority has its old count
abbrev pub ChangesCount : (old new : AwaitedLock) (priority count : ℕ) → Type 0
ChangesCount old new p n =
    (other : ℕ) → 1 ≤ other → other ≤ max_priority
    → writers_at new other ≡ (if p == other then n else writers_at old other)
