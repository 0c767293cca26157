use Rattle.std.proofs.Common.{◌≡◌, ◌≤◌, take}
use Rattle.pt_model.specs.Histories.{history}
use Rattle.pt_model.specs.Clients.{living_count}
use Rattle.pt_readings.proofs.clients.living.Given as goal

abbrev pub invariant-loop-entry : goal.invariant-loop-entry
invariant-loop-entry l = record {
  value : l.count ≡ living_count (history (take l.entry-index l.entries));
  small : l.count ≤ l.entry-index;
}
