use Rattle.std.proofs.Common.{sym, subst}
use Rattle.pt_model.specs.declared.entry.Entry.TheVariants.{Call}
use Rattle.pt_machine.specs.Memory.{needs_memory}
use Rattle.pt_machine.specs.Pushes.{CanCall, PushesOnOk}
use Rattle.pt_machine.proofs.push.push_call.Goals as goal

pub push_answered-requires-clause-can : goal.push_answered-requires-clause-can
push_answered-requires-clause-can g c =
    subst (λ a. CanCall c.args.state.now (g.Q.WaitList.seen c.args.queues.now) c.args.c
    c.args.call.now a c.args.request.now) c.in-Some.is c.requires.can

pub returns-in-Some : goal.returns-in-Some
returns-in-Some g c =
    record {
      pushes = subst (λ a. let e = Call c.args.c c.args.call.now a in
          PushesOnOk c.args.state.now e (needs_memory e) c.push_answered.result
          c.push_answered.new.state (g.Q.WaitList.seen c.push_answered.new.queues))
          (sym c.in-Some.is) c.push_answered.ensures.pushes;
      timed = c.push_answered.ensures.timed;
    }

pub push_waiting_call-requires-clause-can : goal.push_waiting_call-requires-clause-can
push_waiting_call-requires-clause-can g c =
    subst (λ a. CanCall c.args.state.now (g.Q.WaitList.seen c.args.queues.now) c.args.c
    c.args.call.now a c.args.request.now) c.in-None.is c.requires.can

pub returns-in-None : goal.returns-in-None
returns-in-None g c =
    record {
      pushes = subst (λ a. let e = Call c.args.c c.args.call.now a in
          PushesOnOk c.args.state.now e (needs_memory e) c.push_waiting_call.result
          c.push_waiting_call.new.state (g.Q.WaitList.seen c.push_waiting_call.new.queues))
          (sym c.in-None.is) c.push_waiting_call.ensures.pushes;
      timed = c.push_waiting_call.ensures.timed;
    }
