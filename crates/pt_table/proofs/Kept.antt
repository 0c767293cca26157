-- What is true of a table whose rows and numbers are unchanged.
use Rattle.std.proofs.Common.{◌≡◌, ℕ, List, Option, Bool, true, false, cond, ◌||◌, refl, ap, ◌∙◌}
use Rattle.pt_table.specs.Slots.{rows_listed}

pub or-else : (b other : Bool) → cond b true other ≡ (b || other)
or-else true other = refl
or-else false other = refl

pub rows-same : {R : Type 0} (number : R → ℕ) (slots slots' : List (Option R))
    (numbers numbers' : List (ℕ × ℕ)) → slots' ≡ slots → numbers' ≡ numbers
    → rows_listed number slots' numbers' ≡ rows_listed number slots numbers
rows-same number slots slots' numbers numbers' s n =
    ap (λ x. rows_listed number x numbers') s ∙ ap (rows_listed number slots) n
