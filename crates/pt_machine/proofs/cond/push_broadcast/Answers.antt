use Rattle.std.proofs.Common.{◌≡◌, ℕ, ◌==◌, cond, List, Option, Some, None, IfSome, IfNone, sym, ap}
use Rattle.std.proofs.Common.{◌∙◌, subst}
use Rattle.pt_history.proofs.Places.{place_of_next}
use Rattle.pt_model.specs.Searches.{In}
use Rattle.pt_model.specs.Answers.{open_calls}
use Rattle.pt_model.specs.Moves.{wait_object}
use Rattle.pt_model.specs.declared.waiting_call.WaitingCall.{WaitingCall}
use Rattle.pt_waitq.specs.declared.waiter.Waiter.{Waiter}
use Rattle.pt_waitq.specs.Queues.{insert_in_order, other_waiters}
use Rattle.pt_state.specs.Adds.{history_of}
use Rattle.pt_records.proofs.LockViews.{cond-found}
use Rattle.pt_machine.specs.CallQueues.{CanEnqueue, waiter}
use Rattle.pt_machine.proofs.Broadcasts.{broadcasting}
use Rattle.pt_machine.proofs.QueuedBroadcast.{rousing-begins, rousing-ends, rousing-stands}
use Rattle.pt_machine.proofs.QueuedBroadcast.{rousing-shorter, rousing-next, rousing-takes}
use Rattle.pt_machine.proofs.QueuedSame.{queued-kept}
use Rattle.pt_machine.proofs.PlaceTakes.{Takes, take-admitted, take-nowhere, take-made, take-latest}
use Rattle.pt_machine.proofs.PlaceTakes.{take-put}
use Rattle.pt_machine.proofs.cond.push_broadcast.Given.{Over}
use Rattle.pt_machine.proofs.cond.push_broadcast.Goals as goal

-- the queues without the waiter that was taken out
taken : (queue queue' : ℕ → List Waiter) (found : Option Waiter) (first : Waiter)
    → found ≡ Some first → IfSome found (λ v. (q : ℕ) → queue' q ≡ other_waiters v.client (queue q))
    → (q : ℕ) → queue' q ≡ other_waiters first.client (queue q)
taken queue queue' found first is out =
    subst (λ o. IfSome o (λ v. (q : ℕ) → queue' q ≡ other_waiters v.client (queue q))) is out

-- the queues if none was taken out
left : (queue queue' : ℕ → List Waiter) (found : Option Waiter) → found ≡ None
    → IfNone found ((q : ℕ) → queue' q ≡ queue q) → (q : ℕ) → queue' q ≡ queue q
left queue queue' found is same = subst (λ o. IfNone o ((q : ℕ) → queue' q ≡ queue q)) is same

pub loop-first-init : goal.loop-first-init
loop-first-init g c =
    rousing-begins
    (broadcasting c.args.state.now c.push_broadcast.new.self c.args.c c.args.call.now
    c.args.n.now c.args.object c.unwrap-q.result c.requires.can.ready c.requires.operation
    c.requires.found
    c.unwrap-q.ensures c.push_broadcast.ensures) c.requires.can.queued

pub mutex_of_waits-m-requires-clause-cond : goal.mutex_of_waits-m-requires-clause-cond
mutex_of_waits-m-requires-clause-cond g c =
    cond-found (history_of c.args.state.now) c.requires.can.ready.read.follows c.args.n.now
    c.unwrap-q.result (sym c.requires.found ∙ c.unwrap-q.ensures)

-- the first of the waits, after its move, is at its mutex
its-place : (g : Over) → (c : goal.After-moved_at g)
    → Takes (history_of c.push_broadcast.new.self) c.in-Some.first.client c.mutex_of_waits-m.result
    c.moved_at.result
its-place g c =
    rousing-takes c.loop-first.invariant c.take_first.ensures.first c.in-Some.is
    c.mutex_of_waits-m.ensures
    (c.moved_at.ensures ∙ ap (λ j. record c.in-Some.first { moved = j })
    (c.len-place.ensures ∙ sym (place_of_next c.args.state.now.stored)))

-- and may take its place there
may-stand : (g : Over) → (c : goal.After-moved_at g)
    → CanEnqueue (history_of c.push_broadcast.new.self) c.in-Some.first.client
    (g.Q.WaitList.seen c.take_first.new.self)
may-stand g c =
    let out = taken (g.Q.WaitList.seen c.loop-first.queues).queue
    (g.Q.WaitList.seen c.take_first.new.self).queue _ c.in-Some.first c.in-Some.is
    c.take_first.ensures.taken in
    rousing-stands c.loop-first.invariant c.take_first.ensures.first c.in-Some.is out
    c.take_first.ensures.admitted c.take_first.ensures.is_queue

pub insert-requires-clause-admitted : goal.insert-requires-clause-admitted
insert-requires-clause-admitted g c = take-admitted (may-stand g c) (its-place g c)

pub insert-requires-clause-nowhere : goal.insert-requires-clause-nowhere
insert-requires-clause-nowhere g c = take-nowhere (may-stand g c) (its-place g c)

pub insert-requires-clause-is_queue : goal.insert-requires-clause-is_queue
insert-requires-clause-is_queue g c = take-made (may-stand g c) (its-place g c)

pub insert-requires-clause-latest : goal.insert-requires-clause-latest
insert-requires-clause-latest g c = take-latest (may-stand g c) (its-place g c)

-- the queues after it has taken its place
put : (g : Over) → (c : goal.After-insert g) → (w : WaitingCall)
    → In w (open_calls (history_of c.push_broadcast.new.self)) → w.client ≡ c.in-Some.first.client
    → (r : ℕ)
    → (g.Q.WaitList.seen c.insert.new.self).queue r
    ≡ cond (wait_object (history_of c.push_broadcast.new.self) w == r)
    (insert_in_order (waiter (history_of c.push_broadcast.new.self) w)
    ((g.Q.WaitList.seen c.take_first.new.self).queue r))
    ((g.Q.WaitList.seen c.take_first.new.self).queue r)
put g c =
    take-put (history_of c.push_broadcast.new.self) c.in-Some.first.client c.mutex_of_waits-m.result
    c.moved_at.result (its-place g c.before)
    (g.Q.WaitList.seen c.take_first.new.self).queue (g.Q.WaitList.seen c.insert.new.self).queue
    c.insert.ensures.queues

pub loop-first-smaller : goal.loop-first-smaller
loop-first-smaller g c =
    let out = taken (g.Q.WaitList.seen c.loop-first.queues).queue
    (g.Q.WaitList.seen c.take_first.new.self).queue _ c.in-Some.first c.in-Some.is
    c.take_first.ensures.taken in
    rousing-shorter c.loop-first.invariant c.take_first.ensures.first c.in-Some.is out
    (put g c)

pub loop-first-preserved : goal.loop-first-preserved
loop-first-preserved g c =
    let out = taken (g.Q.WaitList.seen c.loop-first.queues).queue
    (g.Q.WaitList.seen c.take_first.new.self).queue _ c.in-Some.first c.in-Some.is
    c.take_first.ensures.taken in
    rousing-next c.loop-first.invariant c.take_first.ensures.first c.in-Some.is out
    (put g c) c.take_first.ensures.admitted c.take_first.ensures.is_queue
    c.insert.ensures.admitted c.insert.ensures.is_queue

pub push_broadcast-requires-clause-found : goal.push_broadcast-requires-clause-found
push_broadcast-requires-clause-found g c = sym c.unwrap-q.ensures ∙ c.requires.found

pub returns : goal.returns
returns g c = record {
  adds = c.push_broadcast.ensures;
  queued = let before = g.Q.WaitList.seen c.loop-first.queues in
      let after = g.Q.WaitList.seen c.take_first.new.self in
      queued-kept (history_of c.push_broadcast.new.self) before after
      (left before.queue after.queue _ c.in_default.is c.take_first.ensures.none)
      c.take_first.ensures.admitted c.take_first.ensures.is_queue
      (rousing-ends c.loop-first.invariant c.take_first.ensures.first c.in_default.is);
}
