-- Counts: the tests over a slice of counts. The count of priority p is at index p - 1.
use Rattle.std.specs.Prelude.{◌≡◌, ◌≢◌, ◌<◌, ◌≤◌, ◌==◌, ℕ, Bool, not, List, length, Option}
use Rattle.std.specs.Prelude.{slice_index, MatchOption}

-- whether a count is not zero
abbrev pub is_set : ℕ → Bool
is_set n = not (n == 0)

-- the count at an index is not zero
abbrev pub IsSetAt : List ℕ → ℕ → Type 0
IsSetAt counts i = (i < length counts) × (slice_index counts i ≢ 0)

-- some count at index p or above is not zero
abbrev pub AnyFrom : List ℕ → ℕ → Type 0
AnyFrom counts p = (i : ℕ) × (p ≤ i) × IsSetAt counts i

-- all counts are zero
abbrev pub AllZero : List ℕ → Type 0
AllZero counts = (i : ℕ) → i < length counts → slice_index counts i ≡ 0

-- it is the greatest index whose count is not zero, or none if all are zero
abbrev pub IsHighest : List ℕ → Option ℕ → Type 0
IsHighest counts found =
    MatchOption found
    (AllZero counts)
    (λ i. IsSetAt counts i × ((j : ℕ) → IsSetAt counts j → j ≤ i))
