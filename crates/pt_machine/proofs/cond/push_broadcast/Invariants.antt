use Rattle.std.proofs.Common.{length}
use Rattle.pt_state.specs.Adds.{history_of}
use Rattle.pt_machine.proofs.QueuedBroadcast.{IsRousing}
use Rattle.pt_machine.proofs.cond.push_broadcast.Given as goal

abbrev pub invariant-loop-first : goal.invariant-loop-first
invariant-loop-first g l =
    IsRousing (history_of l.fn.state) (history_of l.state) l.q (g.Q.WaitList.seen l.queues).queue
    (g.Q.WaitList.seen l.queues).admitted (g.Q.WaitList.seen l.queues).is_queue

abbrev pub decreases-loop-first : goal.decreases-loop-first
decreases-loop-first g l = length ((g.Q.WaitList.seen l.queues).queue l.q)
