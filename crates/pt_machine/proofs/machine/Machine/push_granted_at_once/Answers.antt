use Rattle.std.proofs.Common.{None, arith, subst, sym, refl}
use Rattle.pt_history.specs.Stored.{stored_history}
use Rattle.pt_model.specs.declared.entry.Entry.TheVariants.{Call}
use Rattle.pt_model.specs.declared.entry.Event.TheVariants as event
use Rattle.pt_model.specs.Forced.{service}
use Rattle.pt_state.specs.Adds.{HasRoomFor, history_of}
use Rattle.pt_machine.specs.GrantedAtOnce.{IsGrantedAtOnce, IsReadyAfter}
use Rattle.pt_machine.specs.LastTouched.{IsTouched}
use Rattle.pt_machine.specs.Plans.{IsPlanned}
use Rattle.pt_machine.specs.CallQueues.{IsQueued}
use Rattle.pt_machine.specs.Reserved.{IsReserved}
use Rattle.pt_machine.specs.CallDeadlines.{AreDeadlinesSet}
use Rattle.pt_machine.proofs.GrantedStates.{alone-granted, must-follow, uses, reserves}
use Rattle.pt_machine.proofs.GrantedStates.{queued-granted, rests-granted, timed-granted}
use Rattle.pt_machine.proofs.GrantedStates.{told-granted, touched-granted}
use Rattle.pt_machine.proofs.NeedSteps.{reserved-forced}
use Rattle.pt_types.specs.Operations.{operation}
use Rattle.std.proofs.lemmas.Bool.{false≢true}
use Rattle.pt_machine.proofs.NeedsMemory.{small-unread}
use Rattle.pt_machine.proofs.machine.Machine.push_granted_at_once.Goals as goal

pub push_both-requires-clause-has_room : goal.push_both-requires-clause-has_room
push_both-requires-clause-has_room g c =
    let ready : HasRoomFor c.self.inside.state (Call c.args.c c.args.call.now None) =
    rw c.self.view_is c.requires.has_room in
    ready

pub push_both-requires-clause-granted : goal.push_both-requires-clause-granted
push_both-requires-clause-granted g c =
    let granted : IsGrantedAtOnce (history_of c.self.inside.state) c.args.c c.args.call.now =
    rw c.self.view_is c.requires.granted in
    granted

pub push_both-requires-clause-request : goal.push_both-requires-clause-request
push_both-requires-clause-request g c =
    let planned : IsPlanned (history_of c.self.inside.state) (event.Call c.args.c c.args.call.now)
    c.args.plan.now =
    rw c.self.view_is c.requires.planned in
    planned.has_request

pub invariant_of-self : goal.invariant_of-self
invariant_of-self g c =
    let stored = c.in_err-granted.ensures.unchanged.stored in (
      subst (λ s. IsQueued (stored_history s) (g.Q.WaitList.seen c.self.inside.queues)) (sym stored)
          c.self.invariant.0,
      subst (λ s. AreDeadlinesSet (stored_history s) c.self.inside.timers)
          (sym stored) c.self.invariant.1,
      subst (λ s. IsTouched (stored_history s) c.self.inside.touched c.self.inside.entering)
          (sym stored)
          c.self.invariant.2,
      subst (λ s. IsReserved (stored_history s) c.self.inside.need) (sym stored) c.self.invariant.3,
    )

pub push_both-requires-clause-next : goal.push_both-requires-clause-next
push_both-requires-clause-next g c =
    let old = c.self.inside.state in
    let after : IsReadyAfter old (Call c.args.c c.args.call.now None) =
    rw c.self.view_is c.requires.next in
    after

pub overflow_sub-self : goal.overflow_sub-self
overflow_sub-self g c =
    let old = c.self.inside.state in
    let e = Call c.args.c c.args.call.now None in
    let ready : HasRoomFor old e = rw c.self.view_is c.requires.has_room in
    let granted : IsGrantedAtOnce (history_of old) c.args.c c.args.call.now =
    rw c.self.view_is c.requires.granted in
    let after : IsReadyAfter old e = rw c.self.view_is c.requires.next in
    let planned : IsPlanned (history_of old) (event.Call c.args.c c.args.call.now) c.args.plan.now =
    rw c.self.view_is c.requires.planned in
    let both = c.in_ok-granted.ensures.ok in
    let must = must-follow old both.mid c.args.c c.args.call.now ready granted both.first both.its
    both.found in
    let next = after both.mid both.first (service (history_of both.mid) both.its.call) must in
    let reserved = reserves old both.mid c.args.c c.args.call.now ready granted both.first both.its
    both.found c.args.plan.now planned in
    let used = uses old both.mid c.args.c c.args.call.now ready granted both.first both.its
    both.found next c.in_ok-granted.granted.used both.uses in
    omega (arith, reserved.needs, used)

pub invariant_of-self-2 : goal.invariant_of-self-2
invariant_of-self-2 g c =
    let old = c.self.inside.state in
    let e = Call c.args.c c.args.call.now None in
    let ready : HasRoomFor old e = rw c.self.view_is c.requires.has_room in
    let granted : IsGrantedAtOnce (history_of old) c.args.c c.args.call.now =
    rw c.self.view_is c.requires.granted in
    let after : IsReadyAfter old e = rw c.self.view_is c.requires.next in
    let planned : IsPlanned (history_of old) (event.Call c.args.c c.args.call.now) c.args.plan.now =
    rw c.self.view_is c.requires.planned in
    let both = c.in_ok-granted.ensures.ok in
    let must = must-follow old both.mid c.args.c c.args.call.now ready granted both.first both.its
    both.found in
    let next = after both.mid both.first (service (history_of both.mid) both.its.call) must in
    let reserved = reserves old both.mid c.args.c c.args.call.now ready granted both.first both.its
    both.found c.args.plan.now planned in
    let used = uses old both.mid c.args.c c.args.call.now ready granted both.first both.its
    both.found next c.in_ok-granted.granted.used both.uses in
    let new = c.push_both.new.state in (
      queued-granted old both.mid c.args.c c.args.call.now ready granted both.first both.its
          both.found new both.second (g.Q.WaitList.seen c.self.inside.queues) c.self.invariant.0,
      timed-granted old both.mid c.args.c c.args.call.now ready granted both.first both.its
          both.found new both.second c.self.inside.timers c.self.invariant.1,
      touched-granted old both.mid c.args.c c.args.call.now ready granted both.first both.its
          both.found new both.second c.args.plan.now planned,
      reserved-forced both.mid new (service (history_of both.mid) both.its.call) both.second
          c.args.plan.now.need c.in_ok-granted.granted.used reserved used,
    )

pub returns-in_err-granted-clause-succeeds_if : goal.returns-in_err-granted-clause-succeeds_if
returns-in_err-granted-clause-succeeds_if g c =
    λ small.
    absurd
    (false≢true
    (c.in_err-granted.ensures.succeeds_if (small-unread (operation c.args.call.now) small)))

pub returns : goal.returns
returns g c = record {
  ok = let old = c.self.inside.state in
      let e = Call c.args.c c.args.call.now None in
      let ready : HasRoomFor old e = rw c.self.view_is c.requires.has_room in
      let granted : IsGrantedAtOnce (history_of old) c.args.c c.args.call.now =
      rw c.self.view_is c.requires.granted in
      let both = c.in_ok-granted.ensures.ok in
      rw (← c.self.view_is)
      (record {
        mid = both.mid;
        first = both.first;
        next = service (history_of both.mid) both.its.call;
        follows = must-follow old both.mid c.args.c c.args.call.now ready granted both.first
            both.its
            both.found;
        second = both.second;
      });
  replies = let old = c.self.inside.state in
      let e = Call c.args.c c.args.call.now None in
      let ready : HasRoomFor old e = rw c.self.view_is c.requires.has_room in
      let granted : IsGrantedAtOnce (history_of old) c.args.c c.args.call.now =
      rw c.self.view_is c.requires.granted in
      let both = c.in_ok-granted.ensures.ok in
      rw (← c.self.view_is)
      (told-granted old both.mid c.args.c c.args.call.now ready granted both.first both.its
      both.found c.push_both.new.state both.second c.in_ok-granted.granted.outcome both.replies);
  answers_only_caller = let old = c.self.inside.state in
      let e = Call c.args.c c.args.call.now None in
      let ready : HasRoomFor old e = rw c.self.view_is c.requires.has_room in
      let granted : IsGrantedAtOnce (history_of old) c.args.c c.args.call.now =
      rw c.self.view_is c.requires.granted in
      let both = c.in_ok-granted.ensures.ok in
      rw (← c.self.view_is)
      (alone-granted old both.mid c.args.c c.args.call.now ready granted both.first both.its
      both.found c.push_both.new.state both.second c.in_ok-granted.granted.outcome both.replies);
  settled = let old = c.self.inside.state in
      let e = Call c.args.c c.args.call.now None in
      let ready : HasRoomFor old e = rw c.self.view_is c.requires.has_room in
      let granted : IsGrantedAtOnce (history_of old) c.args.c c.args.call.now =
      rw c.self.view_is c.requires.granted in
      let after : IsReadyAfter old e = rw c.self.view_is c.requires.next in
      let both = c.in_ok-granted.ensures.ok in
      let must = must-follow old both.mid c.args.c c.args.call.now ready granted both.first both.its
      both.found in
      rests-granted old both.mid c.args.c c.args.call.now ready granted both.first both.its
      both.found c.push_both.new.state both.second
      (after both.mid both.first (service (history_of both.mid) both.its.call) must);
  unchanged = tt;
  err = tt;
  succeeds_if = λ small. refl;
}
