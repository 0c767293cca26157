use Rattle.std.proofs.Common.{◌≡◌, ℕ, ◌∷◌, [], Some, None, refl, sym, ap, ◌∙◌, subst, append-nil}
use Rattle.std.proofs.Common.{arith}
use Rattle.std.specs.Prelude.{option_map, unwrap_or}
use Rattle.pt_types.specs.declared.time.Clock.{Clock}
use Rattle.pt_types.specs.Operations.{clock_of}
use Rattle.pt_model.specs.declared.entry.Entry.TheVariants as entry
use Rattle.pt_model.specs.declared.waiting_call.Role.TheVariants.{ForBarrier}
use Rattle.pt_model.specs.Clients.{client_priority}
use Rattle.pt_model.specs.Histories.{place}
use Rattle.pt_model.specs.WaitingCall.{new_waiting_call, waiting_calls_by_operation}
use Rattle.pt_records.specs.declared.clients.Caller.{Caller}
use Rattle.pt_records.specs.declared.clients.Open.{Open}
use Rattle.pt_records.specs.Arrivals.{caller_after_arrival}
use Rattle.pt_records.specs.Callers.{caller_after_call}
use Rattle.pt_records.specs.Logs.{log}
use Rattle.pt_records.specs.Writes.{WritesCaller}
use Rattle.pt_records.proofs.Chaining.{chained-caller}
use Rattle.pt_state.specs.Adds.{history_of}
use Rattle.pt_state.specs.NewWaitingCalls.{IsNewWaitingCall}
use Rattle.pt_state.proofs.AddLemmas.{adds}
use Rattle.pt_state.proofs.WaitingLemmas.{nearly-left, waits_there, waits-row}
use Rattle.pt_state.proofs.WaitingObjects.{object_rows-waiting}
use Rattle.pt_state.proofs.state.State.push_waiting_arrival.Goals as goal
use Rattle.pt_history.proofs.Places.{place_of_next}

pub arrive-requires : goal.arrive-requires
arrive-requires g c =
    waits-row c.args.self.now c.args.c c.args.call.now c.requires.has_room

pub returns : goal.returns
returns g c =
    let s = c.args.self.now in
    let h = history_of s in
    let d = c.args.c in
    let call = c.args.call.now in
    let e = entry.Call d call None in
    let ready = c.requires.has_room in
    let b = c.or_zero.result in
    let k = clock_of call in
    let v = (waits_there s d call ready).0 in
    let at = (waits_there s d call ready).1 in
    let o : Open =
    record { call = new_waiting_call h d b ForBarrier k None; moved = None } in
    let left : IsNewWaitingCall h d call o =
    record {
      is_waiting = ap (waiting_calls_by_operation h d k) c.requires.operation
          ∙ ap (λ q. new_waiting_call h d q ForBarrier k None ∷ [])
          (sym (c.or_zero.ensures ∙ ap (λ f. unwrap_or f 0) c.requires.found));
      unmoved = refl;
    } in
    let place_is : c.len-place.result ≡ place h =
    c.len-place.ensures ∙ sym (place_of_next s.stored) in
    let prio : v.priority ≡ unwrap_or (client_priority h d) 0 =
    ap (λ f. unwrap_or (option_map (λ (x : Caller). x.priority) f) 0) (sym at)
    ∙ ap (λ f. unwrap_or f 0) (ready.read.callers.look.living d) in
    let row : ℕ → Clock → ℕ → Caller = λ j z p.
    record v {
      «open» = Some (record {
        call = record {
          place = j;
          client = d;
          priority = p;
          object = b;
          role = ForBarrier;
          clock = z;
          deadline = None;
        };
        moved = None;
      });
      latest = Some j;
      answer = None;
    } in
    let same : caller_after_arrival c.len-place.result d b c.clock_of_arrival-clock.result v
    ≡ record (caller_after_call (place h) None v) { «open» = Some o } =
    ap (λ j. row j c.clock_of_arrival-clock.result v.priority) place_is
    ∙ (ap (λ z. row (place h) z v.priority) c.clock_of_arrival-clock.ensures
    ∙ ap (row (place h) k) prio) in
    let written : WritesCaller s.clients c.arrive.new.clients d
    (record (caller_after_call (place h) None v) { «open» = Some o }) =
    subst (WritesCaller s.clients c.arrive.new.clients d) same (c.arrive.ensures v at) in
    let near = nearly-left s d call ready o left s.clients refl s.objects
    (object_rows-waiting s d call ready o left refl) ready.read.chained in
    adds s e (near.follows, near.step) _ c.push_named.ensures
    (near.callers c.arrive.new.clients v at written) near.objects
    (chained-caller s.clients c.arrive.new.clients s.objects s.orphans near.chained d v
    (record (caller_after_call (place h) None v) { «open» = Some o }) at written refl)
    near.clocks (near.answers ∙ sym (append-nil (log h))) refl (omega arith)
