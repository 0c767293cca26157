use Rattle.std.proofs.Common.{◌≡◌, ◌≤◌, take}
use Rattle.pt_model.specs.Histories.{history}
use Rattle.pt_model.specs.Mutexes.{unlock_count}
use Rattle.pt_readings.proofs.mutexes.unlock_count.Given as goal

abbrev pub invariant-loop-i : goal.invariant-loop-i
invariant-loop-i l = record {
  value : l.count ≡ unlock_count (history (take l.i l.entries)) l.m l.c;
  small : l.count ≤ l.i;
}
