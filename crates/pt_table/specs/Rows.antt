-- Rows: a list of rows as a map from their numbers.
use Rattle.std.specs.Prelude.{ℕ, List, Option, find, filter, map, nat_eq, not, if◌then◌else◌}

module _ {R : Type 0} (number : R → ℕ) where
  -- the row with this number
  abbrev pub row_at : List R → ℕ → Option R
  row_at rows n = find (λ row. nat_eq n (number row)) rows

  -- the rows without the one with this number
  abbrev pub without : List R → ℕ → List R
  without rows n = filter (λ row. not (nat_eq n (number row))) rows

  -- the rows, with the one that has this number changed
  abbrev pub changed_at : (R → R) → List R → ℕ → List R
  changed_at change rows n = map (λ row. if nat_eq n (number row) then change row else row) rows
