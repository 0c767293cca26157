-- A call for a lock that is granted as it comes: the tables between its entry and its Grant.
use Rattle.std.proofs.Common.{◌≡◌, ℕ, ◌-◌, ◌<◌, ◌==◌, Bool, true, false, cond, List, []}
use Rattle.std.proofs.Common.{◌∷◌, ◌++◌, Option, Some, None, map, length, refl, sym, ap}
use Rattle.std.proofs.Common.{◌∙◌, subst, arith, append-nil, eq-eqb}
use Rattle.std.specs.Prelude.{option_map}
use Rattle.pt_types.specs.declared.call.Call.{Call as FunctionCall}
use Rattle.pt_types.specs.declared.outcome.Outcome.{Outcome}
use Rattle.pt_table.specs.declared.clients.ClientRow.{ClientRow}
use Rattle.pt_table.specs.declared.objects.ObjectRow.{ObjectRow}
use Rattle.pt_table.specs.ClientRows.{client_value, has_client, with_client}
use Rattle.pt_model.specs.declared.entry.Entry.{Entry}
use Rattle.pt_model.specs.declared.entry.Entry.TheVariants.{Call, Grant}
use Rattle.pt_model.specs.Searches.{In}
use Rattle.pt_model.specs.Histories.{◌▷◌, place}
use Rattle.pt_model.specs.Answers.{open_calls, entry_replies}
use Rattle.pt_model.specs.Grants.{grant_outcome}
use Rattle.pt_model.specs.declared.waiting_call.Role.{Role}
use Rattle.pt_records.specs.declared.clients.Caller.{Caller}
use Rattle.pt_records.specs.declared.clients.Open.{Open}
use Rattle.pt_records.specs.declared.objects.Object.{Object}
use Rattle.pt_records.specs.Callers.{AreCallers, caller_after_call, caller_after_answer, open_in}
use Rattle.pt_records.specs.Callers.{opens_of}
use Rattle.pt_records.specs.Chained.{AreChained, rows_without_owned}
use Rattle.pt_records.specs.Logs.{log_entry, log, replies_with_place}
use Rattle.pt_records.specs.Objects.{AreObjectRows}
use Rattle.pt_records.specs.Writes.{WritesCaller}
use Rattle.pt_records.proofs.CallerWrites.{client-there, writes-caller}
use Rattle.pt_records.proofs.Chaining.{chained-caller}
use Rattle.pt_records.proofs.OpenRows.{look-row, row-open}
use Rattle.pt_state.specs.declared.state.State.{State}
use Rattle.pt_state.specs.Adds.{Adds, HasRoomFor, history_of, store_with_entry}
use Rattle.pt_state.specs.Clocks.{clock_reading}
use Rattle.pt_state.specs.Forcing.{reply_to_open}
use Rattle.pt_state.specs.Acquisitions.{AddsCallAndGrant, IsGrantedCall, NotesCallAndGrant}
use Rattle.pt_state.proofs.AddLemmas.{adds}
use Rattle.pt_state.proofs.Requested.{open_place-kept}
use Rattle.pt_state.proofs.ForceCallers.{callers-grant, known-open}
use Rattle.pt_state.proofs.ForceLemmas.{forced-adds}
use Rattle.pt_state.proofs.OwnedRows.{FindsSame, bare, callers-bare, there-rows_without_owned}
use Rattle.pt_state.proofs.OwnedRows.{written-rows_without_owned}
use Rattle.pt_state.proofs.WaitingLemmas.{nearly-left, waits_there}
use Rattle.pt_state.proofs.StepLemmas.{called as known_call}
use Rattle.pt_state.proofs.ReplyLemmas.{entry_replies-grant}

-- a client whose row has no open call
unopened : (o : Option Open) → option_map (λ (v : Open). v.call.place) o ≡ None → o ≡ None
unopened None e = refl
unopened (Some v) e = absurd cc

-- the row of a client whose call is left waiting
abbrev pub standing : ℕ → Open → Caller → Caller
standing k o v = record (caller_after_call k None v) { «open» = Some o }

module _ {A : Type 0} (s : State A) (c : ℕ) (call : FunctionCall)
    (ready : HasRoomFor s (Call c call None)) (role : Role) (m : ℕ) (o : Open)
    (acquisition : IsGrantedCall s c call role m o) where
  abbrev pub e : Entry
  e = Call c call None

  -- its client's row
  pub row : (v : Caller) × (client_value s.clients c ≡ Some v)
  row = waits_there s c call ready

  pub row-there : has_client s.clients c ≡ true
  row-there = client-there s.clients c row.0 row.1

  -- the client has a row, whatever clients own
  pub still-there : (clients : List (ClientRow Caller)) → rows_without_owned clients
      ≡ rows_without_owned s.clients
      → has_client clients c ≡ true
  still-there clients owned =
      let its = there-rows_without_owned s.clients clients owned c row in client-there clients c
      its.0 its.1

  unblocked : row.0.open ≡ None
  unblocked =
      unopened row.0.open
      (ap (λ k. option_map (λ (v : Open). v.call.place) (open_in k)) (sym row.1)
      ∙ (open_place-kept (history_of s) s.clients ready.read.callers c
      ∙ (known_call (history_of s) c call None ready.step).unblocked))

  -- its row, while it waits
  abbrev pub waits : Caller
  waits = standing (place (history_of s)) o row.0

  abbrev pub rows : List (ClientRow Caller)
  rows = with_client s.clients c waits

  wrote : WritesCaller s.clients rows c waits
  wrote = writes-caller s.clients c waits row-there

  -- the rows have the call in its client's row
  here : (c == c) ≡ true
  here = eq-eqb c c refl

  its_row : client_value rows c ≡ Some waits
  its_row = wrote.look c ∙ ap (λ b. cond b (Some waits) (client_value s.clients c)) here

  pub found : open_in (client_value rows c) ≡ Some o
  found = ap open_in its_row

  pub has_call : In o (opens_of rows)
  has_call = let r = look-row rows c waits its_row in
      row-open rows r.0 o r.1.0 (ap (λ (x : Caller). x.open) r.1.2)

  -- with the objects as they are while it waits
  module _ (objects : List (ObjectRow (Object A))) (look : AreObjectRows (history_of s ▷ e) objects)
      (linked : AreChained s.clients objects s.orphans) where
    -- the tables with the call's entry
    abbrev pub mid : State A
    mid = record s { clients = rows; objects = objects; stored = store_with_entry s.stored e }

    pub first : Adds s e mid
    first =
        let near = nearly-left s c call ready o acquisition.new_waiting s.clients refl objects look linked in
        adds s e (ready.read.follows, ready.step) mid refl
        (near.callers rows row.0 row.1 wrote) near.objects
        (chained-caller s.clients rows objects s.orphans linked c row.0 waits row.1 wrote refl)
        near.clocks (near.answers ∙ sym (append-nil (log (history_of s)))) refl (omega arith)

    -- its Grant may follow
    abbrev pub answer : Outcome
    answer = grant_outcome (history_of mid) o.call

    pub next : HasRoomFor mid (Grant o.call.place answer)
    next = acquisition.next mid first

    pub open_now : In o.call (open_calls (history_of mid))
    open_now = known-open (history_of mid) mid.clients next.read.follows next.read.callers o has_call

    one : entry_replies (history_of mid) (Grant o.call.place answer) ≡ reply_to_open o answer ∷ []
    one = entry_replies-grant (history_of mid) o.call answer next.read.follows open_now

    -- there is room for the answer and for both entries
    pub spare : length s.answers.items < s.answers.capacity
    spare = omega (arith, next.spare, ap length one)

    pub room : 0 < s.stored.room - 1
    room = next.room

    -- once it is granted, with this outcome and these objects
    module _ (x : Outcome) (answers_it : x ≡ answer) (new : List (ObjectRow (Object A)))
        (then : AreObjectRows (history_of mid ▷ Grant o.call.place answer) new) where
      -- the rows of clients, if the Grant closes the call in the row in which it waits
      abbrev closes : List (ClientRow Caller)
      closes = with_client rows c (caller_after_answer (Some answer) waits)

      closed_row : WritesCaller rows closes c (caller_after_answer (Some answer) waits)
      closed_row =
          writes-caller rows c (caller_after_answer (Some answer) waits)
          (client-there rows c waits its_row)

      callers_closed : AreCallers (history_of mid ▷ Grant o.call.place answer) closes
      callers_closed =
          callers-grant (history_of mid) rows next.read.follows next.read.callers o has_call closes
          answer
          (λ v at.
          let two : Some v ≡ Some waits =
          sym at ∙ (ap (client_value rows) acquisition.client ∙ its_row) in
          let same : v ≡ waits = cc in
          subst (λ n. WritesCaller rows closes n (caller_after_answer (Some answer) v))
          (sym acquisition.client)
          (subst (λ (u : Caller). WritesCaller rows closes c (caller_after_answer (Some answer) u))
          (sym same)
          closed_row))

      -- and if its client's row is written only once
      direct : (ones : List (ClientRow Caller)) (v : Caller) → client_value s.clients c ≡ Some v
          → WritesCaller s.clients ones c (caller_after_call (place (history_of s)) (Some answer) v)
          → AreCallers (history_of mid ▷ Grant o.call.place answer) ones
      direct ones v at w =
          callers-bare (history_of mid ▷ Grant o.call.place answer) closes ones same
          (w.many ∙ (sym wrote.many ∙ sym closed_row.many))
          (w.once ready.read.callers.once) callers_closed
        where
          its : v ≡ row.0
          its = let two : Some v ≡ Some row.0 = sym at ∙ row.1 in cc

          alike : caller_after_call (place (history_of s)) (Some answer) v
              ≡ caller_after_answer (Some answer) waits
          alike =
              ap (caller_after_call (place (history_of s)) (Some answer)) its
              ∙ ap (λ k. record (caller_after_call (place (history_of s))
              (Some answer) row.0) { «open» = k })
              unblocked

          same : FindsSame (client_value closes) (client_value ones)
          same d =
              ap (option_map bare)
              (w.look d
              ∙ (go (c == d)
              ∙ (sym (ap (λ k. cond (c == d) (Some (caller_after_answer (Some answer) waits)) k)
              (wrote.look d))
              ∙ sym (closed_row.look d))))
            where
              go : (b : Bool)
                  → cond b (Some (caller_after_call (place (history_of s)) (Some answer) v))
                  (client_value s.clients d)
                  ≡ cond b (Some (caller_after_answer (Some answer) waits))
                  (cond b (Some waits) (client_value s.clients d))
              go true = ap Some alike
              go false = refl

      -- all tables after the Grant
      module _ (clients : List (ClientRow Caller)) (owned : rows_without_owned clients
          ≡ rows_without_owned s.clients)
          (chained : AreChained clients new s.orphans) (end : State A)
          (notes : NotesCallAndGrant (record s { clients = clients; objects = new }) c call x end)
        where
          its_clients : (v : Caller) × (client_value clients c ≡ Some v)
          its_clients = there-rows_without_owned s.clients clients owned c row

          noted_it : WritesCaller clients end.clients c
              (caller_after_call (place (history_of s)) (Some answer) its_clients.0)
          noted_it =
              subst (λ (y : Outcome). WritesCaller clients end.clients c
              (caller_after_call (place (history_of s)) (Some y) its_clients.0)) answers_it
              (notes.noted its_clients.0 its_clients.1)

          callers_then : AreCallers (history_of mid ▷ Grant o.call.place answer) end.clients
          callers_then =
              written-rows_without_owned s.clients clients owned (history_of s)
              (history_of mid ▷ Grant o.call.place answer) c (caller_after_call (place (history_of s))
              (Some answer))
              (λ u v alike. ap (caller_after_call (place (history_of s)) (Some answer)) alike)
              ready.read.callers direct end.clients its_clients.0 its_clients.1 noted_it

          objects_then : end.objects ≡ new
          objects_then = ap (λ (t : State A). t.objects) notes.rest

          chained_then : AreChained end.clients end.objects end.orphans
          chained_then =
              let kept = chained-caller clients end.clients new s.orphans chained c its_clients.0
              (caller_after_call (place (history_of s))
              (Some answer) its_clients.0) its_clients.1 noted_it
              refl in
              subst (λ n. AreChained end.clients end.objects n)
              (sym (ap (λ (t : State A). t.orphans) notes.rest))
              (subst (λ (ns : List (ObjectRow (Object A))). AreChained end.clients ns s.orphans)
              (sym objects_then) kept)

          pub second : AddsCallAndGrant s c call o x end
          second =
              record {
                mid = mid;
                first = first;
                found = found;
                replies = answers_it;
                second = subst (λ y. Adds mid (Grant o.call.place y) end) (sym answers_it)
                    (forced-adds mid (Grant o.call.place answer) (next.read.follows, next.step)
                    next.read.answers end
                    (notes.stored
                    ∙ (ap (λ n. store_with_entry mid.stored (Grant n x)) (sym acquisition.place)
                    ∙ ap (λ y. store_with_entry mid.stored (Grant o.call.place y)) answers_it))
                    callers_then
                    (subst (AreObjectRows (history_of mid ▷ Grant o.call.place answer))
                    (sym objects_then) then)
                    chained_then
                    (λ z. ap (λ (t : State A). clock_reading t.clocks z) notes.rest
                    ∙ next.read.clocks z)
                    (notes.answers
                    ∙ (ap (λ n. map log_entry s.answers.items ++ (
                      place (history_of mid),
                      record { client = n; place = place (history_of s); outcome = x },
                    ) ∷ []) (sym acquisition.client)
                    ∙ (ap (λ n. map log_entry s.answers.items ++ (
                      place (history_of mid),
                      record { client = o.call.client; place = n; outcome = x },
                    ) ∷ []) (sym acquisition.place)
                    ∙ (ap (λ y. map log_entry s.answers.items
                    ++ (place (history_of mid), reply_to_open o y) ∷ [])
                    answers_it
                    ∙ ap (λ us. map log_entry s.answers.items
                    ++ replies_with_place (place (history_of mid)) us)
                    (sym one)))))
                    notes.has_capacity);
              }
