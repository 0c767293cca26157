use Rattle.std.proofs.Common.{◌≡◌, ◌≤◌, take}
use Rattle.pt_model.specs.Histories.{history}
use Rattle.pt_model.specs.Rwlocks.{read_count}
use Rattle.pt_readings.proofs.rwlocks.reads.Given as goal

abbrev pub invariant-loop-i : goal.invariant-loop-i
invariant-loop-i l = record {
  value : l.count ≡ read_count (history (take l.i l.entries)) l.r l.c;
  small : l.count ≤ l.i;
}
