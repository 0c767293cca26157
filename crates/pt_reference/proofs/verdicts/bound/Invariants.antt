use Rattle.std.proofs.Common.{◌≡◌, ◌≤◌, filter, length}
use Rattle.std.specs.Prelude.{◌==◌}
use Rattle.pt_model.specs.Moves.{wait_object}
use Rattle.pt_model.specs.Verdicts.{bound_mutex}
use Rattle.pt_model.specs.Histories.{history}
use Rattle.pt_model.specs.Answers.{open_calls}
use Rattle.pt_model.proofs.Ascending.{from}
use Rattle.pt_reference.proofs.verdicts.bound.Given as goal

abbrev pub invariant-loop-i : goal.invariant-loop-i
invariant-loop-i l =
    let h = history l.entries in
    record {
      within : l.i ≤ length l.entries;
      value : l.found
          ≡ bound_mutex (filter (λ w. wait_object h w == l.q) (from l.i (open_calls h)));
    }

abbrev pub decreases-loop-i : goal.decreases-loop-i
decreases-loop-i l = l.i
