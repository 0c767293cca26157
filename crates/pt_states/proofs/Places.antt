-- Places: where a turn is put among others.
use Rattle.std.proofs.Common.{◌≤◌, ℕ, suc, Bool, true, false, cond, List, [], ◌∷◌, length, arith}
use Rattle.pt_types.specs.KeyOrder.{goes_before}
use Rattle.pt_states.specs.declared.turns.Turn.{Turn}
use Rattle.pt_states.specs.Turns.{place_in}

-- a turn is put within the list, or at its end
pub place_within : (t : Turn) (ts : List Turn) → place_in t ts ≤ length ts
place_within t [] = omega arith
place_within t (u ∷ us) = by (goes_before t.key u.key) (place_in t us) (length us) (place_within t us)
  where
    by : (b : Bool) (p n : ℕ) → p ≤ n → cond b 0 (suc p) ≤ suc n
    by true p n le = omega arith
    by false p n le = omega arith
