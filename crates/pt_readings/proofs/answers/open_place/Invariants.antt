use Rattle.std.proofs.Common.{◌≡◌, ◌≤◌, length}
use Rattle.pt_model.specs.Histories.{history}
use Rattle.pt_model.specs.Answers.{open_calls, place_of_client}
use Rattle.pt_model.proofs.Ascending.{from}
use Rattle.pt_readings.proofs.answers.open_place.Given as goal

abbrev pub invariant-loop-i : goal.invariant-loop-i
invariant-loop-i l = record {
  within : l.i ≤ length l.entries;
  value : l.found ≡ place_of_client (from l.i (open_calls (history l.entries))) l.c;
}

abbrev pub decreases-loop-i : goal.decreases-loop-i
decreases-loop-i l = l.i
