use Rattle.std.proofs.Common.{◌≡◌, ◌≤◌, length}
use Rattle.pt_model.specs.Histories.{history}
use Rattle.pt_model.specs.Answers.{open_calls, at_barrier}
use Rattle.pt_model.proofs.Ascending.{upto}
use Rattle.pt_reference.proofs.grants.arrivals.Given as goal

abbrev pub invariant-loop-i : goal.invariant-loop-i
invariant-loop-i l = record {
  value : l.count ≡ length (at_barrier l.b (upto l.i (open_calls (history l.entries))));
  small : l.count ≤ l.i;
}
