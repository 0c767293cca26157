use Rattle.pt_state.specs.Adds.{history_of}
use Rattle.pt_state.specs.Serving.{waits_at_cond}
use Rattle.pt_machine.specs.CallQueues.{IsQueued}
use Rattle.pt_machine.proofs.QueueCounts.{counts-cond, open-most}
use Rattle.pt_machine.proofs.machine.Machine.waiting.Goals as goal

pub returns-clause-value : goal.returns-clause-value
returns-clause-value g c =
    let queues = c.self.inside.queues in
    let queued : IsQueued (history_of c.args.self.now) (g.Q.WaitList.seen queues) =
    rw (← c.self.view_is) c.self.invariant.0 in
    counts-cond (history_of c.args.self.now) (g.Q.WaitList.seen queues).queue queued.members
    c.requires.tables.follows (g.met.Q.WaitList.once queues) c.args.q c.len.result
    c.requires.cond c.len.ensures

pub returns-clause-within : goal.returns-clause-within
returns-clause-within g c =
    let s = c.args.self.now in
    open-most (history_of s) s.clients c.requires.tables.follows c.requires.tables.callers
    (waits_at_cond (history_of s) c.args.q) c.len.result (returns-clause-value g c)
