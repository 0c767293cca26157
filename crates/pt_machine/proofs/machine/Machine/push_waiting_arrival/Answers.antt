use Rattle.std.proofs.Common.{◌≡◌, None, refl, sym, ap, ◌∙◌}
use Rattle.pt_model.specs.declared.entry.Entry.TheVariants.{Call}
use Rattle.pt_model.specs.declared.entry.Event.TheVariants as event
use Rattle.pt_model.specs.Histories.{◌▷◌}
use Rattle.pt_model.specs.Room.{entry_for, need}
use Rattle.pt_state.specs.Adds.{Adds, HasRoomFor, history_of}
use Rattle.pt_next_grant.specs.Touched.{service_object_by}
use Rattle.pt_machine.specs.Plans.{IsPlanned, entry_with}
use Rattle.pt_machine.specs.CallDeadlines.{operation_deadline, valid_deadline}
use Rattle.pt_machine.proofs.LastTouches.{service_object-outer}
use Rattle.pt_machine.proofs.NeedSteps.{reserved-outer}
use Rattle.pt_machine.proofs.TimedStates.{untimed}
use Rattle.pt_machine.proofs.machine.Machine.push_waiting_arrival.Goals as goal

pub invariant_of-self : goal.invariant_of-self
invariant_of-self g c =
    let old = c.self.inside.state in
    let h = history_of old in
    let new = c.arrive.new.state in
    let call = c.args.call.now in
    let e = Call c.args.c call None in
    let ready : HasRoomFor old e = rw c.self.view_is c.requires.has_room in
    let planned : IsPlanned h (event.Call c.args.c call) c.args.plan.now =
    rw c.self.view_is c.requires.planned in
    let enters : entry_for h (event.Call c.args.c call) ≡ e =
    sym planned.enters ∙ ap (entry_with h (event.Call c.args.c call)) c.requires.waits in
    let adds : Adds old e new = c.arrive.ensures.adds in (
      c.arrive.ensures.queued,
      untimed old c.self.inside.timers c.args.c call ready c.self.invariant.1 new
          (ap (λ d. valid_deadline (operation_deadline d)) c.requires.operation) adds,
      service_object-outer old new c.args.plan.now.touched _ e adds refl
          (planned.touches ∙ ap (service_object_by h) enters) (λ before. refl),
      reserved-outer old new e adds c.args.plan.now.need
          (planned.needs ∙ ap (λ x. need (h ▷ x)) enters),
    )

pub arrive-requires-clause-can : goal.arrive-requires-clause-can
arrive-requires-clause-can g c = record {
  ready = rw c.self.view_is c.requires.has_room;
  has_request = rw c.self.view_is c.requires.planned.has_request;
  queued = c.self.invariant.0;
}

pub returns : goal.returns
returns g c = rw (← c.self.view_is) c.arrive.ensures.adds
