use Rattle.std.proofs.Common.{ℕ, None, refl, sym, subst}
use Rattle.pt_history.specs.Stored.{stored_history}
use Rattle.pt_model.specs.declared.entry.Entry.TheVariants as entry
use Rattle.pt_state.specs.Adds.{history_of}
use Rattle.pt_state.proofs.StepLemmas.{called}
use Rattle.pt_machine.specs.CallQueues.{CanEnqueue, IsQueued}
use Rattle.pt_machine.proofs.PlaceTakes.{Takes, take-admitted, take-nowhere, take-made, take-latest}
use Rattle.pt_machine.proofs.PlaceTakes.{take-put}
use Rattle.pt_machine.proofs.QueuedSame.{history_of-adds}
use Rattle.pt_machine.proofs.QueuedWaits.{can-stand-left, left-takes, queued-left}
use Rattle.pt_machine.proofs.waiting.push_here.Given.{Over}
use Rattle.pt_machine.proofs.waiting.push_here.Goals as goal

pub priority_in_row-prio-requires-clause-alive : goal.priority_in_row-prio-requires-clause-alive
priority_in_row-prio-requires-clause-alive g c =
    (called (history_of c.args.state.now) c.args.c c.args.call.now None c.requires.ready.step).alive

-- the call takes its place at its object
its-place : (g : Over) → (c : goal.After-waiter_of g)
    → Takes (history_of c.push_waiting.new.self) c.args.c c.object_in-o.result c.waiter_of.result
its-place g c =
    let old = c.args.state.now in
    let seen = g.Q.WaitList.seen c.args.queues.now in
    subst (λ (o : ℕ). Takes (history_of c.push_waiting.new.self) c.args.c o c.waiter_of.result)
    (sym c.object_in-o.ensures) (left-takes (history_of old) c.requires.ready.read.follows c.args.c
    c.args.call.now c.requires.ready.step seen c.requires.queued
    c.waiting-open.result c.waiting-open.ensures (history_of c.push_waiting.new.self)
    (history_of-adds old c.push_waiting.new.self (entry.Call c.args.c c.args.call.now None)
    c.in-Ok.ensures.ok)
    c.priority_in_row-prio.result c.waiter_of.result c.priority_in_row-prio.ensures
    c.waiter_of.ensures)

-- it may take its place there
may-stand : (g : Over) → (c : goal.After-waiter_of g)
    → CanEnqueue (history_of c.push_waiting.new.self) c.args.c (g.Q.WaitList.seen c.args.queues.now)
may-stand g c =
    let old = c.args.state.now in
    let seen = g.Q.WaitList.seen c.args.queues.now in
    can-stand-left (history_of old) c.requires.ready.read.follows c.args.c c.args.call.now
    c.requires.ready.step seen c.requires.queued
    (history_of c.push_waiting.new.self)
    (history_of-adds old c.push_waiting.new.self (entry.Call c.args.c c.args.call.now None)
    c.in-Ok.ensures.ok)

pub insert-requires-clause-admitted : goal.insert-requires-clause-admitted
insert-requires-clause-admitted g c = take-admitted (may-stand g c) (its-place g c)

pub insert-requires-clause-nowhere : goal.insert-requires-clause-nowhere
insert-requires-clause-nowhere g c = take-nowhere (may-stand g c) (its-place g c)

pub insert-requires-clause-is_queue : goal.insert-requires-clause-is_queue
insert-requires-clause-is_queue g c = take-made (may-stand g c) (its-place g c)

pub insert-requires-clause-latest : goal.insert-requires-clause-latest
insert-requires-clause-latest g c = take-latest (may-stand g c) (its-place g c)

pub returns-in-Err : goal.returns-in-Err
returns-in-Err g c = record {
  ok = tt;
  err = c.in-Err.ensures.unchanged;
  reason = c.in-Err.ensures.err;
  enough = c.in-Err.ensures.succeeds_if;
  queued = subst (λ s. IsQueued (stored_history s) (g.Q.WaitList.seen c.args.queues.now))
      (sym c.in-Err.ensures.unchanged.stored) c.requires.queued;
}

pub returns-in-Ok : goal.returns-in-Ok
returns-in-Ok g c = record {
  ok = c.in-Ok.ensures.ok;
  err = tt;
  reason = tt;
  enough = λ other. refl;
  queued = let old = c.args.state.now in
      let new = history_of c.push_waiting.new.self in
      let seen = g.Q.WaitList.seen c.args.queues.now in
      let next = g.Q.WaitList.seen c.insert.new.self in
      queued-left (history_of old) c.requires.ready.read.follows c.args.c c.args.call.now
      c.requires.ready.step seen c.requires.queued new
      (history_of-adds old c.push_waiting.new.self (entry.Call c.args.c c.args.call.now None)
      c.in-Ok.ensures.ok)
      next
      (take-put new c.args.c c.object_in-o.result c.waiter_of.result (its-place g c.before)
      seen.queue next.queue c.insert.ensures.queues)
      c.insert.ensures.admitted c.insert.ensures.is_queue;
}
