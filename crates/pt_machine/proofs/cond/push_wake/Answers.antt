use Rattle.pt_state.specs.Adds.{history_of}
use Rattle.pt_state.specs.Serving.{call_of_open}
use Rattle.pt_machine.proofs.QueuedWakes.{moves-first, stands-wait_move, pushes-taken}
use Rattle.pt_machine.proofs.cond.push_wake.Goals as goal

pub enqueue_open_call-requires-clause-has_room : goal.enqueue_open_call-requires-clause-has_room
enqueue_open_call-requires-clause-has_room g c =
    let ready = c.requires.can.ready in
    stands-wait_move (call_of_open c.args.first.now) c.requires.can c.push_woken.ensures
    (moves-first (history_of c.args.state.now) c.args.c c.args.call.now c.args.n.now
    ready.read.follows
    ready.step c.requires.operation (call_of_open c.args.first.now) c.requires.first)
    c.remove.ensures.queues c.remove.ensures.admitted c.remove.ensures.is_queue

pub returns : goal.returns
returns g c =
    let ready = c.requires.can.ready in
    pushes-taken (call_of_open c.args.first.now) c.requires.can c.push_woken.ensures
    (moves-first (history_of c.args.state.now) c.args.c c.args.call.now c.args.n.now
    ready.read.follows
    ready.step c.requires.operation (call_of_open c.args.first.now) c.requires.first)
    c.remove.ensures.queues c.remove.ensures.admitted c.remove.ensures.is_queue
    c.enqueue_open_call.ensures.queues c.enqueue_open_call.ensures.admitted
    c.enqueue_open_call.ensures.is_queue
