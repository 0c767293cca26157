-- RowPlaces: the place of a client's row, among rows in the order of the clients' numbers.
use Rattle.std.specs.Prelude.{ℕ, suc, ◌==◌, nat_lt, List, [], ◌∷◌, Option, Some, None}
use Rattle.std.specs.Prelude.{if◌then◌else◌}
use Rattle.std.specs.List.Sorted.{IsStrictlySortedBy}
use Rattle.std.specs.Ordering.{nat_cmp}
use Rattle.std.specs.Map.{keys_of}

-- the clients' numbers rise from row to row
abbrev pub IsInOrder : List (ℕ × ℕ) → Type 0
IsInOrder rows = IsStrictlySortedBy nat_cmp (keys_of rows)

-- the number of rows before the first whose client's number is not lower
abbrev pub place_in : List (ℕ × ℕ) → (client : ℕ) → ℕ
place_in [] c = 0
place_in (e ∷ es) c = if nat_lt e.0 c then suc (place_in es c) else 0

-- the read locks in a row, if it is the client's
abbrev pub reads_for : (client : ℕ) → Option (ℕ × ℕ) → Option ℕ
reads_for c None = None
reads_for c (Some row) = if row.0 == c then Some row.1 else None
