-- There are no more outer entries than places.
use Rattle.std.proofs.Common.{◌≤◌, Bool, true, false, cond, arith}
use Rattle.pt_model.specs.Histories.{History, place, outer, is_forced}
use Rattle.pt_model.specs.Steps.{Follows}
use Rattle.pt_model.proofs.Induction.{by_steps}

one_most : (b : Bool) → cond b 0 1 ≤ 1
one_most true = omega arith
one_most false = omega arith

pub outer-places : (h : History) → Follows h → outer h ≤ place h
outer-places =
    by_steps (λ h. outer h ≤ place h) (omega arith)
    (λ h e f few s. omega (arith, few, one_most (is_forced e))) (λ h f few. few)
