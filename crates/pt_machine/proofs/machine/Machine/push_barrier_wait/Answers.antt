use Rattle.std.proofs.Common.{◌≡◌, unwrap_or, sym, ap, ◌∙◌, subst}
use Rattle.std.proofs.lemmas.Bool.{false≢true}
use Rattle.pt_types.specs.declared.operations.ObjectClass.TheVariants.{Barrier as BarrierClass}
use Rattle.pt_model.specs.Forced.{service}
use Rattle.pt_model.specs.WaitingCall.{object_or_zero}
use Rattle.pt_state.specs.Adds.{history_of}
use Rattle.pt_state.specs.Requests.{object_meant}
use Rattle.pt_machine.specs.Services.{IsService}
use Rattle.pt_machine.proofs.SettledArrivals.{rests-arrived, serves-arrived}
use Rattle.pt_machine.proofs.machine.Machine.push_barrier_wait.Goals as goal

pub push_first-requires-clause-tables : goal.push_first-requires-clause-tables
push_first-requires-clause-tables g c = c.push_waiting_arrival.ensures.read

-- the service of the first call there can be pushed
pub push_first-requires-clause-has_room : goal.push_first-requires-clause-has_room
push_first-requires-clause-has_room g c =
    let old = c.args.self.now in
    let new = c.push_waiting_arrival.new.self in
    let at : c.object_named.result ≡ object_or_zero (history_of old) c.args.n.now BarrierClass =
    c.object_named.ensures
    ∙ ap (λ o. unwrap_or o 0)
    (c.requires.planned.has_request.object ∙ ap (object_meant (history_of old)) c.requires.operation) in
    let r = subst (IsService (history_of new) _) c.in-Some.is c.arrival_service.ensures in (
      r.0,
      (
        r.1.1.0,
        (
          r.1.1.1,
          c.requires.next new c.push_waiting_arrival.ensures (service (history_of new) r.0)
              (serves-arrived old new c.args.c c.args.call.now c.args.n.now
              c.requires.operation c.requires.has_room c.push_waiting_arrival.ensures
              c.object_named.result at r.0 r.1.0),
        ),
      ),
    )

pub returns-in-Some : goal.returns-in-Some
returns-in-Some g c = record {
  adds = λ short. absurd (false≢true short);
  settled = λ short. absurd (false≢true short);
  both = λ full.
      let old = c.args.self.now in
      let new = c.push_waiting_arrival.new.self in
      let at : c.object_named.result ≡ object_or_zero (history_of old) c.args.n.now BarrierClass =
      c.object_named.ensures
      ∙ ap (λ o. unwrap_or o 0)
      (c.requires.planned.has_request.object ∙ ap (object_meant (history_of old)) c.requires.operation) in
      let r = subst (IsService (history_of new) _) c.in-Some.is c.arrival_service.ensures in
      record {
        mid = new;
        first = c.push_waiting_arrival.ensures;
        next = service (history_of new) r.0;
        follows = serves-arrived old new c.args.c c.args.call.now c.args.n.now
            c.requires.operation c.requires.has_room c.push_waiting_arrival.ensures
            c.object_named.result at
            r.0 r.1.0;
        second = c.push_first.ensures r.0 r.1.1.0 r.1.1.1;
      };
}

pub returns-in-None : goal.returns-in-None
returns-in-None g c = record {
  adds = λ short. c.push_waiting_arrival.ensures;
  settled = λ short.
      let old = c.args.self.now in
      let new = c.push_waiting_arrival.new.self in
      let at : c.object_named.result ≡ object_or_zero (history_of old) c.args.n.now BarrierClass =
      c.object_named.ensures
      ∙ ap (λ o. unwrap_or o 0)
      (c.requires.planned.has_request.object ∙ ap (object_meant (history_of old)) c.requires.operation) in
      rests-arrived old new c.args.c c.args.call.now c.args.n.now c.requires.operation
      c.requires.has_room c.push_waiting_arrival.ensures c.object_named.result at
      (subst (IsService (history_of new) _) c.in-None.is c.arrival_service.ensures);
  both = λ full. absurd (false≢true (sym full));
}
