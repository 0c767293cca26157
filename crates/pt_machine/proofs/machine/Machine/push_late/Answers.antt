use Rattle.std.proofs.Common.{refl, ◌≡◌, ◌+◌, Some, ap, ◌∙◌, arith, subst}
use Rattle.pt_model.specs.declared.entry.Entry.TheVariants.{Expire}
use Rattle.pt_model.specs.Histories.{◌▷◌}
use Rattle.pt_model.specs.Room.{need}
use Rattle.pt_model.specs.Searches.{In}
use Rattle.pt_records.specs.Callers.{opens_of}
use Rattle.pt_state.specs.Adds.{Adds, HasRoomFor, history_of}
use Rattle.pt_machine.proofs.LastTouches.{service_object-forced}
use Rattle.pt_machine.proofs.NeedSteps.{reserved-forced}
use Rattle.pt_machine.proofs.OpenRowCalls.{row-goal}
use Rattle.pt_machine.proofs.TimedStates.{own-deadlines, timed-late}
use Rattle.pt_machine.proofs.machine.Machine.push_late.Goals as goal

pub push_expire-requires-clause-can : goal.push_expire-requires-clause-can
push_expire-requires-clause-can g c =
    record { ready = rw c.self.view_is c.requires.has_room; queued = c.self.invariant.0 }

pub push_expire-requires-clause-is_open : goal.push_expire-requires-clause-is_open
push_expire-requires-clause-is_open g c = rw c.self.view_is c.requires.is_open

pub drop_deadline-requires : goal.drop_deadline-requires
drop_deadline-requires g c =
    let old = c.self.inside.state in
    let ready : HasRoomFor old (Expire c.args.late.now.call.place) =
    rw c.self.view_is c.requires.has_room in
    own-deadlines old c.self.inside.timers ready.read c.self.invariant.1 c.args.late.now
    (rw c.self.view_is c.requires.is_open)

pub overflow_sub-self : goal.overflow_sub-self
overflow_sub-self g c =
    let old = c.self.inside.state in
    let used : need (history_of old ▷ Expire c.args.late.now.call.place) +
    c.used_by_expiry-used.result
    ≡ need (history_of old) = rw c.self.view_is c.used_by_expiry-used.ensures in
    omega (arith, c.self.invariant.3.needs, used)

pub returns : goal.returns
returns g c =
    subst (λ t. Adds t (Expire c.args.late.now.call.place) c.push_expire.new.state)
    c.self.view_is c.push_expire.ensures.adds

pub invariant_of-self : goal.invariant_of-self
invariant_of-self g c =
    let old = c.self.inside.state in
    let new = c.push_expire.new.state in
    let late = c.args.late.now in
    let e = Expire late.call.place in
    let ready : HasRoomFor old e = rw c.self.view_is c.requires.has_room in
    let has_call : In late (opens_of old.clients) = rw c.self.view_is c.requires.is_open in
    let used : need (history_of old ▷ e) + c.used_by_expiry-used.result ≡ need (history_of old) =
    rw c.self.view_is c.used_by_expiry-used.ensures in (
      c.push_expire.ensures.queued,
      timed-late old new c.self.inside.timers c.drop_deadline.new.timers ready.read
          c.self.invariant.1 late has_call c.drop_deadline.ensures c.push_expire.ensures.adds,
      service_object-forced old new (Some c.goal_of.result) c.self.inside.entering e refl
          c.push_expire.ensures.adds
          (ap Some c.goal_of.ensures
          ∙ row-goal (history_of old) old.clients ready.read.follows ready.read.callers late has_call)
          c.self.invariant.2.enters,
      reserved-forced old new e c.push_expire.ensures.adds c.self.inside.need
          c.used_by_expiry-used.result c.self.invariant.3 used,
    )
