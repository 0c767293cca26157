use Rattle.std.proofs.Common.{◌≡◌, ℕ, ◌<◌, false}
use Rattle.pt_model.specs.Rwlocks.{is_writer}
use Rattle.pt_model.specs.Histories.{history}
use Rattle.pt_readings.proofs.rwlocks.writer.Given as goal

abbrev pub invariant-loop-i : goal.invariant-loop-i
invariant-loop-i l =
    (k : ℕ) → k < l.i → is_writer (history l.entries) l.r k ≡ false
