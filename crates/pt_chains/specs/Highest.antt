-- Highest: the highest chain of one kind that is not empty, by the counts of the chains.
use Rattle.std.specs.Prelude.{ℕ, ◌≡◌, ◌≢◌, ◌<◌, List, Option, slice_index, MatchOption}
use Rattle.pt_types.specs.Limits.{max_priority}

-- all chains are empty
abbrev pub NoneSet : List ℕ → Type 0
NoneSet counts = (i : ℕ) → i < max_priority → slice_index counts i ≡ 0

-- all chains above this one are empty
abbrev pub NoneAbove : List ℕ → ℕ → Type 0
NoneAbove counts p = (i : ℕ) → i < max_priority → p < i → slice_index counts i ≡ 0

-- all chains above this one are empty, or all chains if none is given
abbrev pub IsBound : List ℕ → Option ℕ → Type 0
IsBound counts bound =
    MatchOption bound (NoneSet counts) (λ p. (p < max_priority) × NoneAbove counts p)

-- it is the highest chain that is not empty, or none if all are empty
abbrev pub IsHighestChain : List ℕ → Option ℕ → Type 0
IsHighestChain counts found =
    MatchOption found
    (NoneSet counts)
    (λ p. (p < max_priority) × (slice_index counts p ≢ 0) × NoneAbove counts p)
