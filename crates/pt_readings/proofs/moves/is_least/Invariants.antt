use Rattle.std.proofs.Common.{◌≡◌, ℕ, ◌<◌, false}
use Rattle.std.specs.Prelude.{◌==◌, ◌&&◌}
use Rattle.pt_model.specs.Histories.{history}
use Rattle.pt_model.specs.WaitingCall.{call_at_place}
use Rattle.pt_model.specs.Answers.{open_calls}
use Rattle.pt_model.specs.Moves.{wait_object, precedes}
use Rattle.pt_model.specs.Found.{is_some_and}
use Rattle.pt_readings.proofs.moves.is_least.Given as goal

abbrev pub invariant-loop-i : goal.invariant-loop-i
invariant-loop-i l =
    let h = history l.entries in
    (k : ℕ) → k < l.i
    → is_some_and (λ v. (wait_object h v == l.o) && precedes h v l.w)
    (call_at_place k (open_calls h))
    ≡ false
