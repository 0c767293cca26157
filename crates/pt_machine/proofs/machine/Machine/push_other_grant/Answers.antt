use Rattle.std.proofs.Common.{◌≡◌, ℕ, Some, None, ◌+◌, ◌∙◌, ap, arith, subst}
use Rattle.pt_model.specs.Room.{reserved_for}
use Rattle.pt_model.specs.WaitingCall.{final_mutex}
use Rattle.pt_records.specs.Counts.{count_or_zero, count_if_passed, reserved_open}
use Rattle.pt_machine.specs.Reserved.{gives_owner}
use Rattle.pt_records.specs.declared.clients.Open.{Open}
use Rattle.pt_state.specs.declared.state.State.{State}
use Rattle.pt_model.specs.Forced.{service}
use Rattle.pt_model.specs.Histories.{◌▷◌}
use Rattle.pt_model.specs.Room.{need}
use Rattle.pt_model.specs.Searches.{In}
use Rattle.pt_records.specs.Callers.{opens_of}
use Rattle.pt_state.specs.Adds.{Adds, HasRoomFor, history_of}
use Rattle.pt_state.specs.Reads.{AreTables}
use Rattle.pt_state.specs.Serving.{call_of_open}
use Rattle.pt_state.proofs.ForceCallers.{known-open}
use Rattle.pt_machine.proofs.LastTouches.{service-forced, still-service_object, service_object-forced}
use Rattle.pt_machine.proofs.NeedSteps.{reserved-forced}
use Rattle.pt_machine.proofs.NeedUses.{row-reserved, uses-grant}
use Rattle.pt_machine.proofs.machine.Machine.push_other_grant.Goals as goal

-- what was reserved for a call that is for no mutex
used-up : {A : Type 0} (s : State A) (o : Open) → AreTables s → In o (opens_of s.clients)
    → final_mutex (call_of_open o).role (call_of_open o).object ≡ None
    → (n : ℕ) → n ≡ count_or_zero reserved_open (Some o)
    → n + count_if_passed (gives_owner (history_of s) (call_of_open o) (final_mutex
    (call_of_open o).role (call_of_open o).object))
    ≡ reserved_for (history_of s) (call_of_open o)
used-up s o read has_call plain n is =
    let none : count_if_passed (gives_owner (history_of s) (call_of_open o)
    (final_mutex (call_of_open o).role (call_of_open o).object)) ≡ 0 =
    ap (λ m. count_if_passed (gives_owner (history_of s) (call_of_open o) m)) plain in
    let row = row-reserved (history_of s) s.clients read.follows read.callers o has_call in
    omega (arith, none, is, row)

pub push_granted-requires-clause-can : goal.push_granted-requires-clause-can
push_granted-requires-clause-can g c =
    let old = c.self.inside.state in
    let ready : HasRoomFor old (service (history_of old) (call_of_open c.args.found.now)) =
    rw c.self.view_is c.requires.has_room in
    record { ready = ready; queued = c.self.invariant.0 }

pub push_granted-requires-clause-is_open : goal.push_granted-requires-clause-is_open
push_granted-requires-clause-is_open g c = rw c.self.view_is c.requires.is_open

pub returns : goal.returns
returns g c =
    subst (λ t. Adds t (service (history_of t)
    (call_of_open c.args.found.now)) c.push_granted.new.state)
    c.self.view_is c.push_granted.ensures.pushes.adds

pub overflow_sub-self : goal.overflow_sub-self
overflow_sub-self g c =
    let old = c.self.inside.state in
    let o = c.args.found.now in
    let has_call : In o (opens_of old.clients) = rw c.self.view_is c.requires.is_open in
    let read : AreTables old = rw c.self.view_is c.requires.tables in
    let ready : HasRoomFor old (service (history_of old) (call_of_open o)) =
    rw c.self.view_is c.requires.has_room in
    let used = uses-grant (history_of old) (call_of_open o) read.follows
    (known-open (history_of old) old.clients read.follows read.callers o has_call) c.requires.other
    ready.step c.reserved_by-used.result
    (used-up old o read has_call c.requires.plain c.reserved_by-used.result
    c.reserved_by-used.ensures.value) in
    omega (arith, c.self.invariant.3.needs, used)

pub invariant_of-self : goal.invariant_of-self
invariant_of-self g c =
    let old = c.self.inside.state in
    let o = c.args.found.now in
    let w = call_of_open o in
    let has_call : In o (opens_of old.clients) = rw c.self.view_is c.requires.is_open in
    let read : AreTables old = rw c.self.view_is c.requires.tables in
    let ready : HasRoomFor old (service
    (history_of old) w) = rw c.self.view_is c.requires.has_room in
    let used : need (history_of old ▷ service (history_of old) w) + c.reserved_by-used.result
    ≡ need (history_of old) = uses-grant (history_of old) w read.follows
    (known-open (history_of old) old.clients read.follows read.callers o has_call) c.requires.other
    ready.step c.reserved_by-used.result
    (used-up old o read has_call c.requires.plain c.reserved_by-used.result
    c.reserved_by-used.ensures.value) in (
      c.push_granted.ensures.pushes.queued,
      c.push_granted.ensures.timed,
      service_object-forced old c.push_granted.new.state c.self.inside.touched
          c.self.inside.entering
          (service (history_of old) w) (service-forced
          (history_of old) w) c.push_granted.ensures.pushes.adds
          (c.self.invariant.2.touches ∙ still-service_object (history_of old) w c.requires.other)
          c.self.invariant.2.enters,
      reserved-forced old c.push_granted.new.state (service (history_of old) w)
          c.push_granted.ensures.pushes.adds c.self.inside.need c.reserved_by-used.result
          c.self.invariant.3 used,
    )
