use Rattle.std.proofs.Common.{◌≡◌, ◌≤◌}
use Rattle.pt_model.specs.Histories.{history, ◌▷◌}
use Rattle.pt_model.specs.Searches.{count_below}
use Rattle.pt_model.specs.Room.{is_robust_owned}
use Rattle.pt_reference.proofs.after.robust_owned.Given as goal

abbrev pub invariant-loop-i : goal.invariant-loop-i
invariant-loop-i l = record {
  value : l.total ≡ count_below l.i (is_robust_owned (history l.entries ▷ l.entry));
  small : l.total ≤ l.i;
}
