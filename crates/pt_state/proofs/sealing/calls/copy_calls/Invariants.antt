use Rattle.std.proofs.Common.{◌≡◌, ◌++◌, drop, map}
use Rattle.pt_state.specs.Copies.{call_start}
use Rattle.pt_records.specs.Callers.{opens_of}
use Rattle.pt_state.proofs.sealing.calls.copy_calls.Given as goal

abbrev pub invariant-loop-i : goal.invariant-loop-i
invariant-loop-i g l =
    l.rows.items ++ map call_start (opens_of (drop l.i l.clients))
    ≡ map call_start (opens_of l.clients)
