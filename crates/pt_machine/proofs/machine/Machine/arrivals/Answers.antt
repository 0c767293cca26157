use Rattle.pt_state.specs.Adds.{history_of}
use Rattle.pt_machine.specs.CallQueues.{IsQueued}
use Rattle.pt_machine.proofs.QueueCounts.{counts-barrier}
use Rattle.pt_machine.proofs.machine.Machine.arrivals.Goals as goal

pub returns : goal.returns
returns g c =
    let queues = c.self.inside.queues in
    let queued : IsQueued (history_of c.args.self.now) (g.Q.WaitList.seen queues) =
    rw (← c.self.view_is) c.self.invariant.0 in
    counts-barrier (history_of c.args.self.now) (g.Q.WaitList.seen queues).queue queued.members
    c.requires.tables.follows (g.met.Q.WaitList.once queues) c.args.b c.len.result
    c.requires.barrier c.len.ensures
