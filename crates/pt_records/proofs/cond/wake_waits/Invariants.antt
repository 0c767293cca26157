use Rattle.std.proofs.Common.{◌≡◌}
use Rattle.pt_records.specs.Writes.{caller_after_broadcast}
use Rattle.pt_records.proofs.CallerScans.{rewritten_first}
use Rattle.pt_records.proofs.cond.wake_waits.Given as goal

abbrev pub invariant-loop-i : goal.invariant-loop-i
invariant-loop-i g l = l.clients
    ≡ rewritten_first (caller_after_broadcast l.q l.at l.cause) l.fn.clients l.i
