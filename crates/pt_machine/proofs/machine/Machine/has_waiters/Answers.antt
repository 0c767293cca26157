use Rattle.pt_state.specs.Adds.{history_of}
use Rattle.pt_machine.specs.CallQueues.{IsQueued}
use Rattle.pt_machine.proofs.QueueReads.{awaited}
use Rattle.pt_machine.proofs.machine.Machine.has_waiters.Goals as goal

pub returns : goal.returns
returns g c =
    let queues = c.self.inside.queues in
    let queued : IsQueued (history_of c.args.self.now) (g.Q.WaitList.seen queues) =
    rw (← c.self.view_is) c.self.invariant.0 in
    awaited (history_of c.args.self.now) (g.Q.WaitList.seen queues).queue queued.members c.args.o
    c.first.result c.is_some.result c.first.ensures c.is_some.ensures
