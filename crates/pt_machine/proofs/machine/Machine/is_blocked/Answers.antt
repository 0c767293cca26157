use Rattle.std.proofs.Common.{◌∙◌, sym}
use Rattle.pt_state.specs.Adds.{history_of}
use Rattle.pt_machine.specs.CallQueues.{IsQueued}
use Rattle.pt_machine.proofs.QueueReads.{blocked-living, blocked-dead}
use Rattle.pt_machine.proofs.machine.Machine.is_blocked.Goals as goal

pub returns-in-Some : goal.returns-in-Some
returns-in-Some g c =
    let queues = c.self.inside.queues in
    let queued : IsQueued (history_of c.args.self.now) (g.Q.WaitList.seen queues) =
    rw (← c.self.view_is) c.self.invariant.0 in
    blocked-living (history_of c.args.self.now)
    (g.Q.WaitList.seen queues).queue queued.members c.args.r
    c.args.c c.in-Some.priority c.blocks_reader.result
    (rw (← c.self.view_is) (sym c.priority.ensures ∙ c.in-Some.is)) c.blocks_reader.ensures

pub returns-in-None : goal.returns-in-None
returns-in-None g c =
    let queues = c.self.inside.queues in
    let queued : IsQueued (history_of c.args.self.now) (g.Q.WaitList.seen queues) =
    rw (← c.self.view_is) c.self.invariant.0 in
    blocked-dead (history_of c.args.self.now)
    (g.Q.WaitList.seen queues).queue queued.members c.args.r
    c.args.c c.first_writer.result c.is_some.result
    (rw (← c.self.view_is) (sym c.priority.ensures ∙ c.in-None.is)) c.first_writer.ensures
    c.is_some.ensures

pub priority-requires : goal.priority-requires
priority-requires g c = rw c.self.view_is c.requires
