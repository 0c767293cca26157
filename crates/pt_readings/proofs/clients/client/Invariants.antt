use Rattle.std.proofs.Common.{◌≡◌, take}
use Rattle.pt_model.specs.Histories.{history}
use Rattle.pt_model.specs.Clients.{client_priority}
use Rattle.pt_readings.proofs.clients.client.Given as goal

abbrev pub invariant-loop-entry : goal.invariant-loop-entry
invariant-loop-entry l = l.found ≡ client_priority (history (take l.entry-index l.entries)) l.c
