use Rattle.std.proofs.Common.{refl, subst, sym}
use Rattle.pt_history.specs.Stored.{stored_history}
use Rattle.pt_model.specs.declared.entry.Entry.{Entry}
use Rattle.pt_model.specs.Room.{entry_for}
use Rattle.pt_machine.specs.LastTouched.{IsTouched}
use Rattle.pt_machine.specs.Plans.{IsPlanned}
use Rattle.pt_machine.specs.Reserved.{IsReserved}
use Rattle.pt_state.specs.Adds.{Adds, HasRoomFor, history_of}
use Rattle.pt_machine.proofs.LastTouches.{service_object-outer}
use Rattle.pt_machine.proofs.NeedSteps.{event-outer, reserved-outer}
use Rattle.pt_machine.proofs.machine.Machine.push_outer.Goals as goal

pub invariant_of-self : goal.invariant_of-self
invariant_of-self g c =
    let stored = sym c.in_err-push_outer.ensures.pushes.err.stored in (
      c.push_outer.ensures.pushes.queued,
      c.push_outer.ensures.timed,
      subst (λ s. IsTouched (stored_history s) c.self.inside.touched c.self.inside.entering) stored
          c.self.invariant.2,
      subst (λ s. IsReserved (stored_history s) c.self.inside.need) stored c.self.invariant.3,
    )

pub invariant_of-self-2 : goal.invariant_of-self-2
invariant_of-self-2 g c =
    let old = c.self.inside.state in
    let v = c.args.event.now in
    let e = entry_for (history_of old) v in
    let planned : IsPlanned (history_of old) v c.args.plan.now = rw c.self.view_is
    c.requires.planned in
    let adds : Adds old e c.push_outer.new.state =
    subst (λ (x : Entry). Adds old x c.push_outer.new.state) planned.enters
    c.in_ok-push_outer.ensures.pushes.ok in (
      c.push_outer.ensures.pushes.queued,
      c.push_outer.ensures.timed,
      service_object-outer old c.push_outer.new.state c.args.plan.now.touched
          c.caller_of-entering.result e adds (event-outer (history_of old) v) planned.touches
          (c.caller_of-entering.ensures (history_of old)),
      reserved-outer old c.push_outer.new.state e adds c.args.plan.now.need planned.needs,
    )

pub push_outer-requires-clause-can : goal.push_outer-requires-clause-can
push_outer-requires-clause-can g c =
    let old = c.self.inside.state in
    let v = c.args.event.now in
    let planned : IsPlanned (history_of old) v c.args.plan.now = rw c.self.view_is
    c.requires.planned in
    let ready : HasRoomFor old (entry_for
    (history_of old) v) = rw c.self.view_is c.requires.has_room in
    record {
      ready = subst (λ (x : Entry). HasRoomFor old x) (sym planned.enters) ready;
      queued = c.self.invariant.0;
    }

pub push_outer-requires-clause-request : goal.push_outer-requires-clause-request
push_outer-requires-clause-request g c = rw c.self.view_is c.requires.planned.has_request

pub returns : goal.returns
returns g c = record {
  ok =
      let old = c.self.inside.state in
      let v = c.args.event.now in
      let planned : IsPlanned (history_of old) v c.args.plan.now = rw c.self.view_is
      c.requires.planned in
      subst (λ s. Adds s (entry_for (history_of s) v) c.push_outer.new.state) c.self.view_is
      (subst (λ (x : Entry). Adds old x c.push_outer.new.state) planned.enters
      c.in_ok-push_outer.ensures.pushes.ok);
  unchanged = tt;
  err = tt;
  succeeds_if = λ small. refl;
}
