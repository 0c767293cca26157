use Rattle.std.proofs.Common.{◌≡◌, take}
use Rattle.pt_waitq.specs.Queues.{first_writer_of}
use Rattle.pt_waitq.specs.Waits.{queue_of}
use Rattle.pt_plain_list.proofs.entries.first_writer_of.Given as goal

abbrev pub invariant-loop-i : goal.invariant-loop-i
invariant-loop-i l = l.best ≡ first_writer_of (queue_of l.object (take l.i l.entries))
