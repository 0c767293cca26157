use Rattle.std.proofs.Common.{◌≡◌, ℕ, ◌<◌, false}
use Rattle.std.specs.Prelude.{nat_lt}
use Rattle.pt_model.specs.Histories.{history, ◌▷◌}
use Rattle.pt_model.specs.Mutexes.{mutex_count}
use Rattle.pt_reference.proofs.after.is_owned.Given as goal

abbrev pub invariant-loop-i : goal.invariant-loop-i
invariant-loop-i l =
    (k : ℕ) → k < l.i → nat_lt 0 (mutex_count (history l.entries ▷ l.entry) l.m k) ≡ false
