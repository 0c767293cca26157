use Rattle.std.proofs.Common.{refl, sym, ap, ◌∙◌}
use Rattle.std.proofs.lemmas.Bool.{false≢true}
use Rattle.pt_state.specs.Outer.{makes_object}
use Rattle.pt_machine.proofs.QueuedObjects.{make-unmade, make-empty, make-queued, make-undone}
use Rattle.pt_state.specs.Adds.{history_of}
use Rattle.pt_machine.proofs.QueuedSame.{queued-kept, stays-same}
use Rattle.pt_machine.proofs.objects.push_created.Goals as goal

pub make-requires : goal.make-requires
make-requires g c = make-unmade c.requires.can c.len.result c.len.ensures

pub discard-requires-clause-empty : goal.discard-requires-clause-empty
discard-requires-clause-empty g c =
    make-empty c.requires.can (g.Q.WaitList.seen c.make.new.self)
    (g.met.Q.WaitList.makes c.args.queues.now) c.len.result c.len.ensures c.make.ensures.queues

pub returns-in-Err : goal.returns-in-Err
returns-in-Err g c = record {
  ok = tt;
  err = stays-same c.args.state.now c.requires.can.ready.read;
  reason = c.in-Err.ensures.err;
  enough = λ small. absurd (false≢true (sym small ∙ ap makes_object c.requires.operation));
  queued = queued-kept (history_of c.args.state.now) _ _ c.in-Err.ensures.queues
      c.in-Err.ensures.admitted c.in-Err.ensures.unchanged c.requires.can.queued;
}

pub returns-in-Ok : goal.returns-in-Ok
returns-in-Ok g c = record {
  ok = c.in-Ok.ensures.ok;
  err = tt;
  reason = tt;
  enough = λ small. refl;
  queued = make-queued c.requires.can c.args.n.now c.args.kind c.requires.operation
      c.push_created.new.self _ c.len.result c.len.ensures c.make.ensures.queues
      c.make.ensures.admitted c.in_default.ensures.ok c.in-Ok.ensures.ok;
}

pub returns-in-Err-push_created : goal.returns-in-Err-push_created
returns-in-Err-push_created g c = record {
  ok = tt;
  err = c.in-Err-push_created.ensures.unchanged;
  reason = c.in-Err-push_created.ensures.err;
  enough = λ small. absurd (false≢true (sym small ∙ ap makes_object c.requires.operation));
  queued = make-undone c.requires.can c.push_created.new.self (g.Q.WaitList.seen c.make.new.self)
      (g.Q.WaitList.seen c.discard.new.self) c.len.result c.len.ensures
      (λ q. c.discard.ensures.queues q ∙ c.make.ensures.queues q)
      (λ d. c.discard.ensures.admitted d ∙ c.make.ensures.admitted d) c.in_default.ensures.ok
      c.discard.ensures.is_queue c.in-Err-push_created.ensures.unchanged;
}
