use Rattle.std.proofs.Common.{◌≡◌, drop}
use Rattle.pt_waitq.specs.Waits.{has_waiter}
use Rattle.pt_plain_list.proofs.entries.entry_of.Given as goal

abbrev pub invariant-loop-i : goal.invariant-loop-i
invariant-loop-i l = has_waiter l.client (drop l.i l.entries) ≡ has_waiter l.client l.entries
