use Rattle.std.proofs.Common.{◌≡◌, ℕ, ◌<◌, false}
use Rattle.pt_model.specs.Verdicts.{returns_to_mutex}
use Rattle.pt_model.specs.Histories.{history}
use Rattle.pt_model.specs.WaitingCall.{call_at_place}
use Rattle.pt_model.specs.Answers.{open_calls}
use Rattle.pt_model.specs.Found.{is_some_and}
use Rattle.pt_reference.proofs.verdicts.returns_to_mutex.Given as goal

abbrev pub invariant-loop-i : goal.invariant-loop-i
invariant-loop-i l =
    let h = history l.entries in
    (k : ℕ) → k < l.i → is_some_and (returns_to_mutex h l.m) (call_at_place k (open_calls h))
    ≡ false
