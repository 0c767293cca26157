use Rattle.std.proofs.Common.{◌≡◌, ◌≤◌, take, length}
use Rattle.pt_waitq.specs.Waits.{queue_of}
use Rattle.pt_plain_list.proofs.entries.count_of.Given as goal

abbrev pub invariant-loop-i : goal.invariant-loop-i
invariant-loop-i l =
    (l.count ≡ length (queue_of l.object (take l.i l.entries))) × (l.count ≤ l.i)
