use Rattle.std.proofs.Common.{◌≤◌, length, drop}
use Rattle.pt_model.specs.Searches.{Each}
use Rattle.pt_client_events.specs.OwnEvents.{Finds}
use Rattle.pt_hub.specs.AnsweringCores.{hub_core}
use Rattle.pt_hub.specs.Closing.{AnyAt, HasRecordedAnswer, HasWrongAnswer}
use Rattle.pt_hub.proofs.forks.wrong_answer.Given as goal

abbrev pub invariant-loop-i : goal.invariant-loop-i
invariant-loop-i g l =
    record {
      within : l.i ≤ length l.receipts;
      found : Finds (AnyAt (HasWrongAnswer (hub_core l.inner)) (drop l.i l.receipts))
          (Each (HasRecordedAnswer (hub_core l.inner)) (drop l.i l.receipts)) l.found;
    }

abbrev pub decreases-loop-i : goal.decreases-loop-i
decreases-loop-i g l = l.i
