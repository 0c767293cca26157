use Rattle.pt_state.specs.Adds.{history_of}
use Rattle.pt_state.specs.Serving.{call_of_open}
use Rattle.pt_state.proofs.ServingFinds.{are-open}
use Rattle.pt_machine.proofs.QueuedWakes.{moves-late, stands-wait_move, pushes-taken}
use Rattle.pt_machine.proofs.cond.push_wait_expiry.Goals as goal

pub enqueue_open_call-requires-clause-has_room : goal.enqueue_open_call-requires-clause-has_room
enqueue_open_call-requires-clause-has_room g c =
    let h = history_of c.args.state.now in
    let read = c.requires.can.ready.read in
    stands-wait_move (call_of_open c.args.found.now) c.requires.can c.push_expire.ensures
    (moves-late h (call_of_open c.args.found.now) read.follows
    ((are-open h c.args.state.now.clients read.follows read.callers).has_call c.args.found.now
    c.requires.is_open).0 c.requires.wait)
    c.remove.ensures.queues c.remove.ensures.admitted c.remove.ensures.is_queue

pub returns : goal.returns
returns g c =
    let h = history_of c.args.state.now in
    let read = c.requires.can.ready.read in
    pushes-taken (call_of_open c.args.found.now) c.requires.can c.push_expire.ensures
    (moves-late h (call_of_open c.args.found.now) read.follows
    ((are-open h c.args.state.now.clients read.follows read.callers).has_call c.args.found.now
    c.requires.is_open).0 c.requires.wait)
    c.remove.ensures.queues c.remove.ensures.admitted c.remove.ensures.is_queue
    c.enqueue_open_call.ensures.queues c.enqueue_open_call.ensures.admitted
    c.enqueue_open_call.ensures.is_queue
