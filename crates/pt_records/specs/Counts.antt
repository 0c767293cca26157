-- Counts: how many entries are reserved for what the rows have.
use Rattle.std.specs.Prelude.{ℕ, ◌==◌, Bool, false, ◌&&◌, Option, Some, None, is_some}
use Rattle.std.specs.Prelude.{if◌then◌else◌}
use Rattle.pt_types.specs.MutexTable.{owns}
use Rattle.pt_records.specs.declared.clients.Open.{Open}
use Rattle.pt_records.specs.declared.objects.Object.{Object}
use Rattle.pt_records.specs.declared.objects.Object.TheVariants.{Mutex}

-- the count for a value, or 0 if there is none
abbrev pub count_or_zero : {A : Type 0} → (A → ℕ) → Option A → ℕ
count_or_zero f None = 0
count_or_zero f (Some x) = f x

-- 1 if a test was passed, else 0
abbrev pub count_if_passed : Bool → ℕ
count_if_passed passed = if passed then 1 else 0

-- the number of entries reserved for an open call: 3, or 2 for a moved wait, which has used one
abbrev pub reserved_open : Open → ℕ
reserved_open o = if is_some o.moved then 2 else 3

-- whether an object is a robust mutex with an owner, for whose Yield one entry is reserved
abbrev pub is_owned_robust : {A : Type 0} → Object A → Bool
is_owned_robust (Mutex m) = m.view.robust && is_some m.view.owner
is_owned_robust _ = false

-- whether an object is a robust mutex on which the client has exactly one lock
-- [XSH pthread_mutex_unlock]
abbrev pub is_last_lock : {A : Type 0} → ℕ → Object A → Bool
is_last_lock c (Mutex m) = m.view.robust && (owns m.view c && (m.view.count == 1))
is_last_lock c _ = false
