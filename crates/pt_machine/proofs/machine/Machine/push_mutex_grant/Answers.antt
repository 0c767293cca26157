use Rattle.std.proofs.Common.{sym, ◌∙◌, subst, arith}
use Rattle.pt_model.specs.declared.entry.Entry.{Entry}
use Rattle.pt_model.specs.Forced.{service}
use Rattle.pt_model.specs.Searches.{In}
use Rattle.pt_records.specs.Callers.{opens_of}
use Rattle.pt_state.specs.Adds.{Adds, HasRoomFor, history_of}
use Rattle.pt_state.specs.Reads.{AreTables}
use Rattle.pt_state.specs.Serving.{call_of_open}
use Rattle.pt_state.proofs.ForceCallers.{known-open}
use Rattle.pt_machine.proofs.LastTouches.{service-forced, still-service_object, service_object-forced}
use Rattle.pt_machine.proofs.NeedSteps.{reserved-forced}
use Rattle.pt_machine.proofs.NeedUses.{no_arrival, row-reserved, serves-mutex, uses-gain}
use Rattle.pt_machine.proofs.QueuedForced.{queued-granted}
use Rattle.pt_machine.proofs.TimedStates.{own-deadlines, timed-served}
use Rattle.pt_machine.proofs.machine.Machine.push_mutex_grant.Goals as goal

pub push_grant_mutex-acquisition-requires-clause-has_room :
    goal.push_grant_mutex-acquisition-requires-clause-has_room
push_grant_mutex-acquisition-requires-clause-has_room g c =
    let old = c.self.inside.state in
    let w = call_of_open c.args.found.now in
    let ready : HasRoomFor old (service
    (history_of old) w) = rw c.self.view_is c.requires.has_room in
    subst (λ (e : Entry). HasRoomFor old e) (serves-mutex
    (history_of old) w c.args.m c.requires.mutex)
    ready

pub drop_deadline-requires : goal.drop_deadline-requires
drop_deadline-requires g c =
    let old = c.self.inside.state in
    let o = c.args.found.now in
    let has_call : In o (opens_of old.clients) = rw c.self.view_is c.requires.is_open in
    let read : AreTables old = rw c.self.view_is c.requires.tables in
    own-deadlines old c.self.inside.timers read c.self.invariant.1 o has_call

pub overflow_sub-self : goal.overflow_sub-self
overflow_sub-self g c =
    let old = c.self.inside.state in
    let o = c.args.found.now in
    let w = call_of_open o in
    let has_call : In o (opens_of old.clients) = rw c.self.view_is c.requires.is_open in
    let read : AreTables old = rw c.self.view_is c.requires.tables in
    let ready : HasRoomFor old (service
    (history_of old) w) = rw c.self.view_is c.requires.has_room in
    let gives = c.push_grant_mutex-acquisition.ensures in
    let used = uses-gain (history_of old) w read.follows
    (known-open (history_of old) old.clients read.follows read.callers o has_call) c.args.m
    c.requires.mutex ready.step c.push_grant_mutex-acquisition.result.robust gives.robust
    c.push_grant_mutex-acquisition.result.outcome gives.outcome _
    (row-reserved (history_of old) old.clients read.follows read.callers o has_call)
    c.unreserved_by_grant.result c.unreserved_by_grant.ensures in
    omega (arith, c.self.invariant.3.needs, used)

pub returns : goal.returns
returns g c =
    let old = c.self.inside.state in
    let w = call_of_open c.args.found.now in
    let new = c.push_grant_mutex-acquisition.new.self in
    let adds : Adds old (service (history_of old) w) new =
    subst (λ (e : Entry). Adds old e new)
    (sym (serves-mutex (history_of old) w c.args.m c.requires.mutex))
    c.push_grant_mutex-acquisition.ensures.adds in
    subst (λ s. Adds s (service (history_of s) w) new) c.self.view_is adds

pub invariant_of-self : goal.invariant_of-self
invariant_of-self g c =
    let old = c.self.inside.state in
    let o = c.args.found.now in
    let w = call_of_open o in
    let has_call : In o (opens_of old.clients) = rw c.self.view_is c.requires.is_open in
    let read : AreTables old = rw c.self.view_is c.requires.tables in
    let ready : HasRoomFor old (service
    (history_of old) w) = rw c.self.view_is c.requires.has_room in
    let gives = c.push_grant_mutex-acquisition.ensures in
    let used = uses-gain (history_of old) w read.follows
    (known-open (history_of old) old.clients read.follows read.callers o has_call) c.args.m
    c.requires.mutex ready.step c.push_grant_mutex-acquisition.result.robust gives.robust
    c.push_grant_mutex-acquisition.result.outcome gives.outcome _
    (row-reserved (history_of old) old.clients read.follows read.callers o has_call)
    c.unreserved_by_grant.result c.unreserved_by_grant.ensures in
    let new = c.push_grant_mutex-acquisition.new.self in
    let adds : Adds old (service (history_of old) w) new =
    subst (λ (e : Entry). Adds old e new)
    (sym (serves-mutex (history_of old) w c.args.m c.requires.mutex)) gives.adds in (
      queued-granted o (record { ready = ready; queued = c.self.invariant.0 }) has_call
          c.remove.ensures.admitted c.remove.ensures.is_queue c.remove.ensures.queues adds
          (no_arrival w.role w.object c.args.m c.requires.mutex),
      timed-served old new c.self.inside.timers c.drop_deadline.new.timers read
          c.self.invariant.1 o has_call
          c.drop_deadline.ensures adds,
      service_object-forced old new c.self.inside.touched c.self.inside.entering
          (service (history_of old) w) (service-forced (history_of old) w) adds
          (c.self.invariant.2.touches ∙ still-service_object (history_of old) w
          (no_arrival w.role w.object c.args.m c.requires.mutex)) c.self.invariant.2.enters,
      reserved-forced old new (service (history_of old) w) adds c.self.inside.need
          c.unreserved_by_grant.result c.self.invariant.3 used,
    )
