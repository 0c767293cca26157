use Rattle.std.proofs.Common.{Ok, sym, subst}
use Rattle.pt_state.specs.Adds.{history_of}
use Rattle.pt_machine.specs.Memory.{needs_memory}
use Rattle.pt_machine.specs.Plans.{HasRequest, entry_with}
use Rattle.pt_machine.specs.Pushes.{CanPush, PushesOnOk}
use Rattle.pt_machine.proofs.QueuedAnswers.{pushes-on-ok}
use Rattle.pt_machine.proofs.TimedArrivals.{timed-join, timed-moment}
use Rattle.pt_machine.proofs.push.push_outer.Goals as goal

pub push_join-requires : goal.push_join-requires
push_join-requires g c =
    let s = c.args.state.now in
    subst (λ e. CanPush s (g.Q.WaitList.seen c.args.queues.now)
    (entry_with (history_of s) e c.args.answer)) c.in-Join.is c.requires.can

pub push_call-requires-clause-can : goal.push_call-requires-clause-can
push_call-requires-clause-can g c =
    let s = c.args.state.now in
    let can = subst (λ e. CanPush s (g.Q.WaitList.seen c.args.queues.now)
    (entry_with (history_of s) e c.args.answer)) c.in-Call.is c.requires.can in
    record {
      ready = can.ready;
      has_request = subst (λ e. HasRequest (history_of s) e c.args.request.now) c.in-Call.is
          c.requires.request;
      queued = can.queued;
    }

pub push_death-requires-clause-can : goal.push_death-requires-clause-can
push_death-requires-clause-can g c =
    let s = c.args.state.now in
    subst (λ e. CanPush s (g.Q.WaitList.seen c.args.queues.now)
    (entry_with (history_of s) e c.args.answer)) c.in-Death.is c.requires.can

pub push_moment-requires : goal.push_moment-requires
push_moment-requires g c =
    let s = c.args.state.now in
    subst (λ e. CanPush s (g.Q.WaitList.seen c.args.queues.now)
    (entry_with (history_of s) e c.args.answer)) c.in-Moment.is c.requires.can

pub returns-in-Join : goal.returns-in-Join
returns-in-Join g c = record {
  pushes = let s = c.args.state.now in
      subst (λ v. let e = entry_with (history_of s) v c.args.answer in PushesOnOk s e
      (needs_memory e)
      c.push_join.result c.push_join.new.state (g.Q.WaitList.seen c.push_join.new.queues))
      (sym c.in-Join.is) c.push_join.ensures;
  timed = timed-join c.args.state.now c.push_join.new.state c.args.timers.now
      c.requires.can.ready.read c.requires.timed c.push_join.result c.in-Join.priority
      c.push_join.ensures.ok c.push_join.ensures.err;
}

pub returns-in-Call : goal.returns-in-Call
returns-in-Call g c = record {
  pushes = let s = c.args.state.now in
      subst (λ v. let e = entry_with (history_of s) v c.args.answer in PushesOnOk s e
      (needs_memory e)
      c.push_call.result c.push_call.new.state (g.Q.WaitList.seen c.push_call.new.queues))
      (sym c.in-Call.is) c.push_call.ensures.pushes;
  timed = c.push_call.ensures.timed;
}

pub returns-in-Death : goal.returns-in-Death
returns-in-Death g c = record {
  pushes = let s = c.args.state.now in
      subst (λ v. let e = entry_with (history_of s) v c.args.answer in PushesOnOk s e
      (needs_memory e)
      (Ok tt) c.push_death.new.state (g.Q.WaitList.seen c.push_death.new.queues))
      (sym c.in-Death.is) (pushes-on-ok c.push_death.ensures.pushes);
  timed = c.push_death.ensures.timed;
}

pub returns-in-Moment : goal.returns-in-Moment
returns-in-Moment g c = record {
  pushes = let s = c.args.state.now in
      subst (λ v. let e = entry_with (history_of s) v c.args.answer in PushesOnOk s e
      (needs_memory e)
      (Ok tt) c.push_moment.new.state (g.Q.WaitList.seen c.push_moment.new.queues))
      (sym c.in-Moment.is) (pushes-on-ok c.push_moment.ensures);
  timed = timed-moment c.args.state.now c.push_moment.new.state c.args.timers.now
      c.requires.can.ready.read c.requires.timed c.in-Moment.clock c.in-Moment.moment
      c.push_moment.ensures.adds;
}
