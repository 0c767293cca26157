use Rattle.std.proofs.Common.{◌≡◌, ℕ, ◌<◌, false}
use Rattle.pt_model.specs.Forced.{is_orphan}
use Rattle.pt_model.specs.Histories.{history}
use Rattle.pt_reference.proofs.forced.forced_yield.Given as goal

abbrev pub invariant-loop-i : goal.invariant-loop-i
invariant-loop-i l =
    (k : ℕ) → k < l.i → is_orphan (history l.entries) k ≡ false
