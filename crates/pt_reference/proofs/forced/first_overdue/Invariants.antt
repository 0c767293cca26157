use Rattle.std.proofs.Common.{◌≡◌, ◌≤◌, filter, length}
use Rattle.pt_model.specs.Searches.{least}
use Rattle.pt_model.specs.Forced.{expires_before, is_overdue}
use Rattle.pt_model.specs.Histories.{history}
use Rattle.pt_model.specs.Answers.{open_calls}
use Rattle.pt_model.proofs.Ascending.{from}
use Rattle.pt_reference.proofs.forced.first_overdue.Given as goal

abbrev pub invariant-loop-i : goal.invariant-loop-i
invariant-loop-i l =
    let h = history l.entries in
    record {
      within : l.i ≤ length l.entries;
      value : l.best
          ≡ least expires_before (filter (is_overdue h) (from l.i (open_calls h)));
    }

abbrev pub decreases-loop-i : goal.decreases-loop-i
decreases-loop-i l = l.i
