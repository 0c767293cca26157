use Rattle.std.proofs.Common.{◌≡◌, ◌≤◌, filter, length}
use Rattle.pt_model.specs.Searches.{least}
use Rattle.pt_model.specs.Forced.{is_served_before, can_be_served}
use Rattle.pt_model.specs.Histories.{history}
use Rattle.pt_model.specs.Answers.{open_calls}
use Rattle.pt_model.proofs.Ascending.{from}
use Rattle.pt_reference.proofs.forced.first_served.Given as goal

abbrev pub invariant-loop-i : goal.invariant-loop-i
invariant-loop-i l =
    let h = history l.entries in
    record {
      within : l.i ≤ length l.entries;
      value : l.best
          ≡ least (is_served_before h) (filter (can_be_served h) (from l.i (open_calls h)));
    }

abbrev pub decreases-loop-i : goal.decreases-loop-i
decreases-loop-i l = l.i
