use Rattle.std.proofs.Common.{◌≡◌, take}
use Rattle.pt_model.specs.Histories.{history}
use Rattle.pt_model.specs.Clients.{clock}
use Rattle.pt_readings.proofs.clients.clock.Given as goal

abbrev pub invariant-loop-entry : goal.invariant-loop-entry
invariant-loop-entry l = l.latest ≡ clock (history (take l.entry-index l.entries)) l.which
