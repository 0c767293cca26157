-- RwlockState: who holds a read-write lock, with its rows of read locks.
use Rattle.std.specs.Prelude.{ℕ, ◌≡◌, ◌<◌, Bool, true, false, not, ◌&&◌, ◌-◌, ◌+◌, ◌==◌, ◌↔◌}
use Rattle.std.specs.Prelude.{nat_lt, IsTrue, List, [], ◌∷◌, Option, Some, None, is_some}
use Rattle.std.specs.Prelude.{is_none, unwrap_or, if◌then◌else◌}
use Rattle.std.specs.List.{list_any}
use Rattle.std.specs.Ordering.{nat_cmp}
use Rattle.std.specs.Map.{lookup, set_value, keys_of}
use Rattle.std.specs.BTreeMap.{is_at, insert_entry}
use Rattle.pt_types.specs.Limits.{max_read_locks}
use Rattle.pt_types.specs.MutexTable.{is_some_number}
use Rattle.pt_types.specs.RwlockTable.{can_grant_read, can_grant_write}
use Rattle.pt_types.specs.declared.views.RwlockView.{RwlockView}
use Rattle.pt_waitq.specs.declared.waiter.Waiter.{Waiter}
use Rattle.pt_rwlock.specs.declared.holders.Held.{Held}
use Rattle.pt_rwlock.specs.declared.holders.Held.TheVariants.{Nothing, Read, Write}

-- the writer, and the clients that have a row, in order, each with its read locks
-- [XSH pthread_rwlock_rdlock]
pub record RwlockState : Type 0 where
  pub writer : Option ℕ
  pub rows : List (ℕ × ℕ)

-- a lock as it is made: nobody holds it  [XSH pthread_rwlock_init]
abbrev pub new_rwlock : RwlockState
new_rwlock = record { writer = None; rows = [] }

-- the read locks in the client's row, if it has one  [XSH pthread_rwlock_rdlock]
abbrev pub reads_in_row : RwlockState → (client : ℕ) → Option ℕ
reads_in_row r c = lookup (is_at (nat_cmp c)) r.rows

-- the client's read locks  [XSH pthread_rwlock_rdlock]
abbrev pub reads_of : RwlockState → (client : ℕ) → ℕ
reads_of r c = unwrap_or (reads_in_row r c) 0

-- whether anybody has a read lock  [XSH pthread_rwlock_wrlock]
abbrev pub has_readers : RwlockState → Bool
has_readers r = list_any (λ c. nat_lt 0 (reads_of r c)) (keys_of r.rows)

-- the number of these rows that have read locks
abbrev pub reader_count : List (ℕ × ℕ) → ℕ
reader_count [] = 0
reader_count (e ∷ es) = (if nat_lt 0 e.1 then 1 else 0) + reader_count es

-- a lock is read exactly if a client has read locks  [XSH pthread_rwlock_wrlock]
abbrev pub ReadBySomebody : Type 0
ReadBySomebody = (r : RwlockState) → IsTrue (has_readers r) ↔ ((c : ℕ) × (0 < reads_of r c))

-- whether nobody holds the lock  [XSH pthread_rwlock_wrlock]
abbrev pub nobody_holds : RwlockState → Bool
nobody_holds r = not (is_some r.writer) && not (has_readers r)

-- the lock as one client sees it  [XSH 2.9]
abbrev pub view_for : RwlockState → (client : ℕ) → RwlockView
view_for r c = record {
  writes = is_some_number r.writer c;
  reads = reads_of r c;
  is_written = is_some r.writer;
  is_read = has_readers r;
}

-- the lock with a row for the client: its own as it was, or a new one without read locks
abbrev pub with_row : RwlockState → (client : ℕ) → RwlockState
with_row r c =
    if is_some (reads_in_row r c) then r
    else record r { rows = insert_entry nat_cmp r.rows c 0 }

-- the lock with this number of read locks in the client's row, and every other row as it was
-- [XSH pthread_rwlock_rdlock]
abbrev pub with_reads : RwlockState → (client : ℕ) → ℕ → RwlockState
with_reads r c n = record r { rows = set_value (is_at (nat_cmp c)) r.rows n }

-- whether there is a row that can take one more read lock: it has fewer than 255
-- [XSH pthread_rwlock_rdlock, the number is profile]
abbrev pub has_room : Option ℕ → Bool
has_room None = false
has_room (Some reads) = nat_lt reads max_read_locks

-- whether a client can be given a read lock: no writer holds the lock, and its row has room
-- [XSH pthread_rwlock_rdlock]
abbrev pub can_acquire_read : RwlockState → (client : ℕ) → Bool
can_acquire_read r c = is_none r.writer && has_room (reads_in_row r c)

-- the client has this row now, and each other client has the row that it had
abbrev pub ChangesRow : (old new : RwlockState) (client : ℕ) → Option ℕ → Type 0
ChangesRow old new c row =
    (other : ℕ) → reads_in_row new other ≡ (if c == other then row else reads_in_row old other)

-- the lock after the client gave back the write lock, or one read lock  [XSH pthread_rwlock_unlock]
abbrev pub rwlock_after_release : RwlockState → (client : ℕ) → RwlockState
rwlock_after_release r c =
    if is_some_number r.writer c then record r { writer = None }
    else with_reads r c (reads_of r c - 1)

-- whether the first waiter can have the lock now, given whether writers of its priority or a higher
-- one wait  [XSH pthread_rwlock_unlock, pthread_rwlock_rdlock]
abbrev pub is_grantable_to : RwlockState → Waiter → (blocked : Bool) → Bool
is_grantable_to r w blocked =
    if w.writer then can_grant_write (view_for r w.client) true
    else can_grant_read (view_for r w.client) blocked

-- how a client holds the lock  [XSH pthread_rwlock_unlock]
abbrev pub held_by : RwlockView → Held
held_by r = if r.writes then Write else if r.reads == 0 then Nothing else Read r.reads
