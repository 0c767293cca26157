use Rattle.std.proofs.Common.{cond, Some, None, sym, ap, ◌∙◌, subst}
use Rattle.pt_types.specs.Operations.{operation}
use Rattle.pt_machine.proofs.NeedsMemory.{left-needs, small-untimed}
use Rattle.pt_machine.proofs.QueuedSame.{stays-same}
use Rattle.pt_machine.proofs.TimedStates.{just-set, none-next, taken, timed-left, timed-refused}
use Rattle.pt_state.specs.Adds.{history_of}
use Rattle.pt_machine.specs.CallDeadlines.{AreDeadlinesSet, valid_deadline}
use Rattle.pt_machine.proofs.push.push_timed.Goals as goal

-- no call has come at the next place
pub set-requires-clause-unset : goal.set-requires-clause-unset
set-requires-clause-unset g c =
    none-next c.args.state.now c.args.timers.now c.args.c c.args.call.now c.requires.can.ready
    c.requires.timed c.len-place.result c.len-place.ensures

pub set-requires-clause-good : goal.set-requires-clause-good
set-requires-clause-good g c = c.requires.good

-- its deadline is set
pub returns-in-Ok : goal.returns-in-Ok
returns-in-Ok g c = record {
  pushes = left-needs (operation c.args.call.now) c.in-Ok.ensures;
  timed = timed-left c.args.state.now c.args.timers.now c.args.c c.args.call.now
      c.requires.can.ready c.requires.timed c.args.deadline c.requires.deadline c.requires.good
      c.clock_of-clock.result c.clock_of-clock.ensures c.len-place.result c.len-place.ensures
      c.set.new.self c.in_default.ensures.ok c.push_waiting.new.state c.in-Ok.ensures.ok;
}

-- and cancelled if the call is refused
pub returns-in-Err-push_waiting : goal.returns-in-Err-push_waiting
returns-in-Err-push_waiting g c = record {
  pushes = left-needs (operation c.args.call.now) c.in-Err-push_waiting.ensures;
  timed = timed-refused c.args.state.now c.args.timers.now c.args.c c.args.call.now
      c.requires.can.ready c.requires.timed c.args.deadline c.requires.deadline c.requires.good
      c.clock_of-clock.result c.clock_of-clock.ensures c.len-place.result
      c.len-place.ensures c.set.new.self c.in_default.ensures.ok c.push_waiting.new.state
      c.cancel.new.self c.in-Err-push_waiting.ensures.err
      (taken c.set.new.self c.cancel.new.self c.len-place.result c.clock_of-clock.result
      c.nanos.result
      (just-set c.args.timers.now c.set.new.self c.len-place.result c.clock_of-clock.result
      c.nanos.result _ c.nanos.ensures c.in_default.ensures.ok) c.cancel.ensures);
}

pub returns-in-Err : goal.returns-in-Err
returns-in-Err g c = record {
  pushes = record {
    ok = tt;
    err = stays-same c.args.state.now c.requires.can.ready.read;
    reason = c.in-Err.ensures.err;
    enough = λ small. absurd (small-untimed (operation c.args.call.now) c.args.deadline
        (ap valid_deadline c.requires.deadline
        ∙ ap (λ b. cond b None (Some c.args.deadline)) c.requires.good) small);
    queued = c.requires.can.queued;
  };
  timed = subst (AreDeadlinesSet (history_of c.args.state.now))
      (sym c.in-Err.ensures.unchanged) c.requires.timed;
}
