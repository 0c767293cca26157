use Rattle.std.proofs.Common.{◌≡◌, ◌++◌, drop, map}
use Rattle.pt_state.specs.Copies.{client_start}
use Rattle.pt_state.proofs.sealing.clients.copy_clients.Given as goal

abbrev pub invariant-loop-i : goal.invariant-loop-i
invariant-loop-i g l =
    l.rows.items ++ map client_start (drop l.i l.clients) ≡ map client_start l.clients
