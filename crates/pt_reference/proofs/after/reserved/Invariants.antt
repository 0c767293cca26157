use Rattle.std.proofs.Common.{◌≡◌, ◌≤◌, ◌*◌, map, sum}
use Rattle.pt_model.specs.Histories.{history, ◌▷◌}
use Rattle.pt_model.specs.Answers.{open_calls}
use Rattle.pt_model.specs.Room.{reserved_for}
use Rattle.pt_model.proofs.Ascending.{upto}
use Rattle.pt_reference.proofs.after.reserved.Given as goal

abbrev pub invariant-loop-i : goal.invariant-loop-i
invariant-loop-i l =
    let h = history l.entries ▷ l.entry in
    record {
      value : l.total ≡ sum (map (reserved_for h) (upto l.i (open_calls h)));
      small : l.total ≤ 3 * l.i;
    }
