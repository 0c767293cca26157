-- What is read off rows that are copied from the tables is the seal.
use Rattle.std.proofs.Common.{◌≡◌, List, map, refl, ap, ◌∙◌}
use Rattle.std.proofs.Math.Path.{fun_ext}
use Rattle.std.proofs.lemmas.List.{length-map}
use Rattle.pt_types.specs.declared.time.Clock.{Clock}
use Rattle.pt_types.specs.declared.time.Clock.TheVariants.{Real, Mono}
use Rattle.pt_table.specs.declared.clients.ClientRow.{ClientRow}
use Rattle.pt_table.specs.declared.objects.ObjectRow.{ObjectRow}
use Rattle.pt_model.specs.Starts.{Start}
use Rattle.pt_model.specs.StartRows.{StartRows, clock_in, start_of_rows}
use Rattle.pt_model.specs.Histories.{History, place, outer}
use Rattle.pt_model.specs.Clients.{clock}
use Rattle.pt_model.specs.Seals.{seal}
use Rattle.pt_model.specs.Steps.{Follows}
use Rattle.pt_records.specs.declared.clients.Caller.{Caller}
use Rattle.pt_records.specs.declared.objects.Object.{Object}
use Rattle.pt_records.specs.Callers.{AreCallers, opens_of}
use Rattle.pt_records.specs.Objects.{AreObjectRows}
use Rattle.pt_state.specs.declared.clock.Clocks.{Clocks}
use Rattle.pt_state.specs.Clocks.{AreClocks}
use Rattle.pt_state.specs.Copies.{call_start, client_start, object_start, readers_in}
use Rattle.pt_state.proofs.SealedClients.{sealed-client_priority, sealed-latest_call, sealed-outcome}
use Rattle.pt_state.proofs.SealedCalls.{sealed-call, sealed-move}
use Rattle.pt_state.proofs.SealedObjects.{sealed-named, sealed-kind, sealed-mutex_count}
use Rattle.pt_state.proofs.SealedObjects.{sealed-consistency, sealed-is_writer}
use Rattle.pt_state.proofs.SealedReaders.{sealed-read_count}

-- two Starts are the same if everything read off them is the same
same-start : (a b : Start)
    → a.at ≡ b.at → a.outer ≡ b.outer → a.clock ≡ b.clock → a.client ≡ b.client
    → a.living ≡ b.living → a.latest ≡ b.latest → a.outcome ≡ b.outcome → a.named ≡ b.named
    → a.kind ≡ b.kind → a.objects ≡ b.objects → a.count ≡ b.count → a.consistency ≡ b.consistency
    → a.writes ≡ b.writes → a.reads ≡ b.reads → a.call ≡ b.call → a.moved ≡ b.moved → a ≡ b
same-start a b e0 e1 e2 e3 e4 e5 e6 e7 e8 e9 e10 e11 e12 e13 e14 e15 =
    let a1 = record a { at = b.at } in
    let a2 = record a1 { outer = b.outer } in
    let a3 = record a2 { clock = b.clock } in
    let a4 = record a3 { client = b.client } in
    let a5 = record a4 { living = b.living } in
    let a6 = record a5 { latest = b.latest } in
    let a7 = record a6 { outcome = b.outcome } in
    let a8 = record a7 { named = b.named } in
    let a9 = record a8 { kind = b.kind } in
    let a10 = record a9 { objects = b.objects } in
    let a11 = record a10 { count = b.count } in
    let a12 = record a11 { consistency = b.consistency } in
    let a13 = record a12 { writes = b.writes } in
    let a14 = record a13 { reads = b.reads } in
    let a15 = record a14 { call = b.call } in
    ap (λ y. record a { at = y }) e0
    ∙ ap (λ y. record a1 { outer = y }) e1
    ∙ ap (λ y. record a2 { clock = y }) e2
    ∙ ap (λ y. record a3 { client = y }) e3
    ∙ ap (λ y. record a4 { living = y }) e4
    ∙ ap (λ y. record a5 { latest = y }) e5
    ∙ ap (λ y. record a6 { outcome = y }) e6
    ∙ ap (λ y. record a7 { named = y }) e7
    ∙ ap (λ y. record a8 { kind = y }) e8
    ∙ ap (λ y. record a9 { objects = y }) e9
    ∙ ap (λ y. record a10 { count = y }) e10
    ∙ ap (λ y. record a11 { consistency = y }) e11
    ∙ ap (λ y. record a12 { writes = y }) e12
    ∙ ap (λ y. record a13 { reads = y }) e13
    ∙ ap (λ y. record a14 { call = y }) e14
    ∙ ap (λ y. record a15 { moved = y }) e15

-- rows of a Start are the same part by part
same-rows : (a b : StartRows)
    → a.at ≡ b.at → a.outer ≡ b.outer → a.real ≡ b.real → a.mono ≡ b.mono → a.clients ≡ b.clients
    → a.objects ≡ b.objects → a.readers ≡ b.readers → a.calls ≡ b.calls → a ≡ b
same-rows a b e0 e1 e2 e3 e4 e5 e6 e7 =
    let a1 = record a { at = b.at } in
    let a2 = record a1 { outer = b.outer } in
    let a3 = record a2 { real = b.real } in
    let a4 = record a3 { mono = b.mono } in
    let a5 = record a4 { clients = b.clients } in
    let a6 = record a5 { objects = b.objects } in
    let a7 = record a6 { readers = b.readers } in
    ap (λ y. record a { at = y }) e0
    ∙ ap (λ y. record a1 { outer = y }) e1
    ∙ ap (λ y. record a2 { real = y }) e2
    ∙ ap (λ y. record a3 { mono = y }) e3
    ∙ ap (λ y. record a4 { clients = y }) e4
    ∙ ap (λ y. record a5 { objects = y }) e5
    ∙ ap (λ y. record a6 { readers = y }) e6
    ∙ ap (λ y. record a7 { calls = y }) e7

module _ {A : Type 0} (h : History) (f : Follows h) (clients : List (ClientRow Caller))
    (objects : List (ObjectRow (Object A))) (kept : Clocks) (c : AreCallers h clients)
    (o : AreObjectRows h objects) (k : AreClocks h kept)
  where
    -- the rows that are copied
    abbrev pub copied : StartRows
    copied =
        record {
          at = place h;
          outer = outer h;
          real = kept.real;
          mono = kept.mono;
          clients = map client_start clients;
          objects = map object_start objects;
          readers = readers_in objects;
          calls = map call_start (opens_of clients);
        }

    clocks : (which : Clock) → clock_in copied which ≡ clock h which
    clocks Real = k Real
    clocks Mono = k Mono

    pub sealed-start : start_of_rows copied ≡ seal h
    sealed-start =
        same-start (start_of_rows copied) (seal h) refl refl (fun_ext clocks)
        (fun_ext (sealed-client_priority h clients c)) (length-map clients client_start ∙ c.many)
        (fun_ext (sealed-latest_call h clients c)) (fun_ext (sealed-outcome h clients c f))
        (fun_ext (sealed-named h f objects o)) (fun_ext (sealed-kind h f objects o))
        (length-map objects object_start ∙ o.many)
        (fun_ext (λ m. fun_ext (sealed-mutex_count h f objects o m)))
        (fun_ext (sealed-consistency h f objects o))
        (fun_ext (λ r. fun_ext (sealed-is_writer h f objects o r)))
        (fun_ext (λ r. fun_ext (sealed-read_count h objects o r)))
        (fun_ext (sealed-call h f clients c)) (fun_ext (sealed-move h f clients c))

    -- so is what is read off any rows that are the same
    pub sealed-rows : (rows : StartRows) → rows.at ≡ place h → rows.outer ≡ outer h
        → rows.real ≡ kept.real → rows.mono ≡ kept.mono → rows.clients ≡ map client_start clients
        → rows.objects ≡ map object_start objects → rows.readers ≡ readers_in objects
        → rows.calls ≡ map call_start (opens_of clients) → start_of_rows rows ≡ seal h
    sealed-rows rows e0 e1 e2 e3 e4 e5 e6 e7 =
        ap start_of_rows (same-rows rows copied e0 e1 e2 e3 e4 e5 e6 e7) ∙ sealed-start
