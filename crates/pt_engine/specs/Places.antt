-- Places: rows in the order in which they were added, and the index of each by its key.
use Rattle.std.specs.Prelude.{◌≡◌, ℕ, Bool, List, Option, Some, slice_get}
use Rattle.std.specs.Map.{lookup}
use Rattle.std.specs.Option.{option_map}

-- the key of the row at an index
abbrev pub key_at : {K V : Type 0} → List (K × V) → ℕ → Option K
key_at rows i = option_map (λ e. e.0) (slice_get rows i)

-- a key has an index exactly if the row there is its own, so no two rows have the same key
pub record ArePlaces {K V : Type 0} (eq : K → K → Bool) (rows : List (K × V))
    (places : List (K × ℕ)) : Type 0 where
  pub own : (key : K) (i : ℕ) → lookup (eq key) places ≡ Some i → key_at rows i ≡ Some key
  pub all : (key : K) (i : ℕ) → key_at rows i ≡ Some key → lookup (eq key) places ≡ Some i
