use Rattle.std.proofs.Common.{◌≡◌, ℕ, Option, Some, None, true, refl, sym, ap, ◌∙◌}
use Rattle.std.specs.Prelude.{is_some}
use Rattle.pt_types.specs.Operations.{clock_of}
use Rattle.pt_history.proofs.Places.{place_of_next}
use Rattle.pt_model.specs.declared.entry.Entry.TheVariants as entry
use Rattle.pt_model.specs.declared.waiting_call.Role.TheVariants.{ForBarrier}
use Rattle.pt_model.specs.Clients.{client_priority}
use Rattle.pt_model.specs.WaitingCall.{new_waiting_call}
use Rattle.pt_records.specs.declared.clients.Open.{Open}
use Rattle.pt_state.specs.Adds.{history_of}
use Rattle.pt_state.specs.Requests.{object_meant}
use Rattle.pt_state.proofs.Handing.{left-arrives}
use Rattle.pt_state.proofs.StepLemmas.{called}
use Rattle.pt_machine.specs.CallQueues.{barrier_waiter, CanEnqueue}
use Rattle.pt_machine.proofs.PlaceTakes.{Takes, take-admitted, take-nowhere, take-made, take-latest}
use Rattle.pt_machine.proofs.PlaceTakes.{take-put}
use Rattle.pt_machine.proofs.QueuedSame.{history_of-adds}
use Rattle.pt_machine.proofs.QueuedWaits.{can-stand-left, left-takes, queued-left}
use Rattle.pt_machine.proofs.barrier.arrive.Given.{Over}
use Rattle.pt_machine.proofs.barrier.arrive.Goals as goal

pub push_waiting_arrival-requires-clause-found : goal.push_waiting_arrival-requires-clause-found
push_waiting_arrival-requires-clause-found g c =
    c.requires.can.has_request.object ∙ ap (object_meant
    (history_of c.args.state.now)) c.requires.operation

-- a client that lives has a priority
level : (o : Option ℕ) → is_some o ≡ true → (p : ℕ) × (o ≡ Some p)
level (Some p) e = (p, refl)
level None e = absurd cc

-- the arrival takes its place at its barrier, whatever its client's priority is
its-place : (g : Over) → (c : goal.After-barrier_waiter g)
    → Takes (history_of c.push_waiting_arrival.new.self) c.args.c c.object_named-b.result
    c.barrier_waiter.result
its-place g c =
    let old = c.args.state.now in
    let h = history_of old in
    let d = c.args.c in
    let b = c.object_named-b.result in
    let ready = c.requires.can.ready in
    let seen = g.Q.WaitList.seen c.args.queues.now in
    let its = level (client_priority h d) (called h d c.args.call.now None ready.step).alive in
    let o : Open = record {
      call = new_waiting_call h d b ForBarrier (clock_of c.args.call.now) None;
      moved = None;
    } in
    left-takes h ready.read.follows d c.args.call.now ready.step
    seen c.requires.can.queued o
    (left-arrives h d c.args.call.now c.args.n.now c.args.request.now.object b
    (clock_of c.args.call.now) o c.requires.operation
    (c.requires.can.has_request.object ∙ ap (object_meant h) c.requires.operation)
    c.object_named-b.ensures refl refl refl)
    (history_of c.push_waiting_arrival.new.self)
    (history_of-adds old c.push_waiting_arrival.new.self (entry.Call d c.args.call.now None)
    c.push_waiting_arrival.ensures)
    its.0 c.barrier_waiter.result its.1
    (c.barrier_waiter.ensures
    ∙ ap (barrier_waiter d) (c.len-place.ensures ∙ sym (place_of_next old.stored)))

-- it may take its place there
may-stand : (g : Over) → (c : goal.After-barrier_waiter g)
    → CanEnqueue (history_of c.push_waiting_arrival.new.self) c.args.c
    (g.Q.WaitList.seen c.args.queues.now)
may-stand g c =
    let old = c.args.state.now in
    let seen = g.Q.WaitList.seen c.args.queues.now in
    can-stand-left (history_of old) c.requires.can.ready.read.follows c.args.c c.args.call.now
    c.requires.can.ready.step seen c.requires.can.queued
    (history_of c.push_waiting_arrival.new.self)
    (history_of-adds old c.push_waiting_arrival.new.self (entry.Call c.args.c c.args.call.now None)
    c.push_waiting_arrival.ensures)

pub insert-requires-clause-admitted : goal.insert-requires-clause-admitted
insert-requires-clause-admitted g c = take-admitted (may-stand g c) (its-place g c)

pub insert-requires-clause-nowhere : goal.insert-requires-clause-nowhere
insert-requires-clause-nowhere g c = take-nowhere (may-stand g c) (its-place g c)

pub insert-requires-clause-is_queue : goal.insert-requires-clause-is_queue
insert-requires-clause-is_queue g c = take-made (may-stand g c) (its-place g c)

pub insert-requires-clause-latest : goal.insert-requires-clause-latest
insert-requires-clause-latest g c = take-latest (may-stand g c) (its-place g c)

pub returns : goal.returns
returns g c = record {
  adds = c.push_waiting_arrival.ensures;
  queued = let old = c.args.state.now in
      let new = history_of c.push_waiting_arrival.new.self in
      let seen = g.Q.WaitList.seen c.args.queues.now in
      let next = g.Q.WaitList.seen c.insert.new.self in
      queued-left (history_of old) c.requires.can.ready.read.follows c.args.c c.args.call.now
      c.requires.can.ready.step seen c.requires.can.queued new
      (history_of-adds old c.push_waiting_arrival.new.self
      (entry.Call c.args.c c.args.call.now None)
      c.push_waiting_arrival.ensures)
      next
      (take-put new c.args.c c.object_named-b.result c.barrier_waiter.result (its-place g c.before)
      seen.queue next.queue c.insert.ensures.queues)
      c.insert.ensures.admitted c.insert.ensures.is_queue;
}
