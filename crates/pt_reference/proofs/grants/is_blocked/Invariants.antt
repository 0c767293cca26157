use Rattle.std.proofs.Common.{◌≡◌, ℕ, ◌<◌, false}
use Rattle.std.specs.Prelude.{◌==◌, ◌&&◌}
use Rattle.pt_model.specs.Moves.{wait_object}
use Rattle.pt_model.specs.Grants.{blocks_readers}
use Rattle.pt_model.specs.Histories.{history}
use Rattle.pt_model.specs.WaitingCall.{call_at_place}
use Rattle.pt_model.specs.Answers.{open_calls}
use Rattle.pt_model.specs.Found.{is_some_and}
use Rattle.pt_reference.proofs.grants.is_blocked.Given as goal

abbrev pub invariant-loop-i : goal.invariant-loop-i
invariant-loop-i l =
    let h = history l.entries in
    (k : ℕ) → k < l.i
    → is_some_and (λ v. (wait_object h v == l.r) && blocks_readers v l.priority)
    (call_at_place k (open_calls h))
    ≡ false
