-- What a Trip answers, and the rows that its answers close.
use Rattle.std.proofs.Common.{◌≡◌, ℕ, suc, ◌≤◌, Bool, true, false, cond, ◌==◌, List, []}
use Rattle.std.proofs.Common.{◌∷◌, ◌++◌, Option, Some, None, map, length}
use Rattle.std.proofs.Common.{refl, sym, ap, ◌∙◌, subst, arith, inl, inr}
use Rattle.std.specs.Prelude.{option_map}
use Rattle.pt_types.specs.declared.outcome.Outcome.{Outcome}
use Rattle.pt_types.specs.declared.outcome.Outcome.TheVariants.{Done}
use Rattle.std.specs.Option.{option_and_then, option_or}
use Rattle.std.specs.List.{AllByRecursion as Each}
use Rattle.std.proofs.lemmas.List.{length-map}
use Rattle.std.proofs.lemmas.Bool.{cases_eq, eq-eqb, ne_eqb, false≢true}
use Rattle.pt_table.specs.declared.clients.ClientRow.{ClientRow}
use Rattle.pt_table.specs.ClientRows.{client_value, with_client}
use Rattle.pt_waitq.specs.declared.waiter.Waiter.{Waiter}
use Rattle.pt_waitq.specs.Queues.{of_client}
use Rattle.pt_model.specs.Searches.{In}
use Rattle.pt_model.specs.Histories.{History, place}
use Rattle.pt_model.specs.Records.{ReplyView}
use Rattle.pt_model.specs.Steps.{Follows}
use Rattle.pt_model.specs.declared.waiting_call.WaitingCall.{WaitingCall}
use Rattle.pt_model.specs.Answers.{at_barrier, open_calls, trip_replies, trip_outcome}
use Rattle.pt_model.specs.Found.{is_some_and}
use Rattle.pt_model.proofs.Ascending.{Ascends}
use Rattle.pt_model.proofs.Lists.{In-filter, filter-in}
use Rattle.pt_model.proofs.OneEach.{one_each}
use Rattle.pt_records.specs.declared.answers.Answered.{Answered}
use Rattle.pt_records.specs.declared.clients.Caller.{Caller}
use Rattle.pt_records.specs.declared.clients.Open.{Open}
use Rattle.pt_records.specs.Arrivals.{AreArrivals, ClosesBy, WaitsAs, caller_after_reply}
use Rattle.pt_records.specs.Arrivals.{caller_after_replies}
use Rattle.pt_records.specs.Arrivals.{answer_before_last, answer_to_earlier, with_serial}
use Rattle.pt_records.specs.Callers.{AreCallers, HasDistinctNumbers, call_in, call_of}
use Rattle.pt_records.specs.Callers.{caller_after_answer}
use Rattle.pt_records.specs.Logs.{last_to, log_entry, outcome_in_log, outcome_if}
use Rattle.pt_records.specs.Logs.{replies_with_place}
use Rattle.pt_records.specs.Writes.{ChangesCaller, RewritesCallers, waits_at_barrier}
use Rattle.pt_records.specs.Writes.{caller_after_trip}
use Rattle.pt_records.proofs.ArrivalLemmas.{arrivals-ascend, arrivals-lone, arrives_at, one-place}
use Rattle.pt_records.proofs.CallerWrites.{changes-some}
use Rattle.pt_records.proofs.LogLemmas.{last_to-append}
use Rattle.pt_records.proofs.OpenRows.{call_of-in, call_of-open}
use Rattle.pt_records.proofs.TripOrder.{Climbs, climbs-same, in-map, lone-length, map-in}
use Rattle.pt_records.proofs.TripOrder.{order-climbs}

passed-climbs : (k n : ℕ) (ws : List WaitingCall) → Ascends n ws
    → Climbs n (map (answer_before_last k) ws)
passed-climbs k n [] a = tt
passed-climbs k n (w ∷ ws) a = (a.0, passed-climbs k (suc w.place) ws a.1)

-- a call gets the same answer as its waiter
passed-same : (k : ℕ) (w : WaitingCall) (v : Waiter) → WaitsAs w v → answer_to_earlier k v
    ≡ answer_before_last k w
passed-same k w v e = ap (to v.place) e.0 ∙ ap (λ n. to n w.client) e.1
  where
    to : ℕ → ℕ → Answered
    to n c = record { at = k; client = c; place = n; outcome = Done }

module _ (h : History) (b k : ℕ) (vs : List Waiter) (a : AreArrivals h b vs) where
  -- the waiters at the barrier get the answers of the calls there, and the calls those of the
  -- waiters
  waiter-passed : (x : Answered) → In x (map (answer_to_earlier k) vs)
      → In x (map (answer_before_last k) (at_barrier b (open_calls h)))
  waiter-passed x i =
      let found = in-map (answer_to_earlier k) vs x i in
      let call = a.has_call found.0 found.1.0 in
      subst (λ y. In y (map (answer_before_last k) (at_barrier b (open_calls h))))
      (sym (found.1.1 ∙ passed-same k call.0 found.0 call.1.1))
      (map-in (answer_before_last k) (at_barrier b (open_calls h)) call.0 call.1.0)

  passed-waiter : (x : Answered) → In x (map (answer_before_last k) (at_barrier b (open_calls h)))
      → In x (map (answer_to_earlier k) vs)
  passed-waiter x i =
      let found = in-map (answer_before_last k) (at_barrier b (open_calls h)) x i in
      let own = a.in_queue found.0 found.1.0 in
      subst (λ y. In y (map (answer_to_earlier k) vs))
      (sym (found.1.1 ∙ sym (passed-same k found.0 own.0 own.1.1)))
      (map-in (answer_to_earlier k) vs own.0 own.1.0)

-- in order of places, and with SERIAL for the last, these are the answers of a Trip
serial-told : (k : ℕ) (ws : List WaitingCall)
    → map log_entry (with_serial (map (answer_before_last k) ws))
    ≡ replies_with_place k (trip_replies ws)
serial-told k [] = refl
serial-told k (w ∷ []) = refl
serial-told k (w ∷ v ∷ ws) = ap (λ ps. log_entry (answer_before_last k w) ∷ ps) (serial-told k (v
    ∷ ws))

pub trip-told : (h : History) (b k : ℕ) (vs : List Waiter)
    → AreArrivals h b vs → ((c : ℕ) → length (of_client c vs) ≤ 1)
    → map log_entry (with_serial (map (answer_to_earlier k) vs))
    ≡ replies_with_place k (trip_replies (at_barrier b (open_calls h)))
trip-told h b k vs a once =
    ap (λ ts. map log_entry (with_serial ts)) same ∙ serial-told k ws
  where
    ws : List WaitingCall
    ws = at_barrier b (open_calls h)

    late : (us : List Waiter) → Each (λ u. 0 ≤ u.place) us
    late [] = tt
    late (u ∷ us) = (omega arith, late us)

    same : map (answer_to_earlier k) vs ≡ map (answer_before_last k) ws
    same =
        climbs-same 0 0 (map (answer_to_earlier k) vs) (map (answer_before_last k) ws)
        (order-climbs k 0 vs a.in_order (λ n. arrivals-lone h b k n vs once a.has_call) (late vs))
        (passed-climbs k 0 ws (arrivals-ascend h b)) (waiter-passed h b k vs a)
        (passed-waiter h b k vs a)

-- the new answers, and the room for them
pub arrivals-room : (h : History) (b k : ℕ) (vs : List Waiter) → AreArrivals h b vs
    → ((c : ℕ) → length (of_client c vs) ≤ 1)
    → length vs ≤ length (at_barrier b (open_calls h))
arrivals-room h b k vs a once =
    let ws = at_barrier b (open_calls h) in
    omega (
      arith,
      length-map vs (answer_to_earlier k),
      length-map ws (answer_before_last k),
      lone-length (map (answer_to_earlier k) vs) (map (answer_before_last k) ws)
          (λ n. arrivals-lone h b k n vs once a.has_call) (waiter-passed h b k vs a),
    )

-- rows that some of these answers have closed, and that the rest will close
pub record ClosedSoFar (old now : List (ClientRow Caller)) (ts rest : List Answered) : Type 0 where
  pub look : (d : ℕ) → option_map (caller_after_replies d rest) (client_value now d)
      ≡ option_map (caller_after_replies d ts) (client_value old d)
  pub many : length now ≡ length old
  pub once : HasDistinctNumbers old → HasDistinctNumbers now

pub caller_after_answer-more : (old now then : List (ClientRow Caller))
    (ts rest more : List Answered)
    (a : Answered) → rest ≡ a ∷ more → ChangesCaller now then a.client (caller_after_reply a)
    → ClosedSoFar old now ts rest → ClosedSoFar old then ts more
caller_after_answer-more old now then ts rest more a is c s =
    record {
      look = λ d.
          ap (option_map (caller_after_replies d more)) (c.look d)
          ∙ (one d (a.client == d) (client_value now d)
          ∙ (ap (λ xs. option_map (caller_after_replies d xs) (client_value now d)) (sym is)
          ∙ s.look d));
      many = c.many ∙ s.many;
      once = λ once. c.once (s.once once);
    }
  where
    one : (d : ℕ) (t : Bool) (kept : Option Caller)
        → option_map (caller_after_replies d more) (cond t (option_map
        (caller_after_reply a) kept) kept)
        ≡ option_map (λ v. caller_after_replies d more (cond t (caller_after_reply a v) v)) kept
    one d true None = refl
    one d true (Some v) = refl
    one d false None = refl
    one d false (Some v) = refl

option_same : (kept : Option Caller) → option_map (λ v. v) kept ≡ kept
option_same None = refl
option_same (Some v) = refl

pub caller_after_answer-end : (old now : List (ClientRow Caller)) (ts rest : List Answered) → rest
    ≡ []
    → ClosedSoFar old now ts rest → ClosesBy old now ts
caller_after_answer-end old now ts rest none s =
    record {
      look = λ d.
          sym (option_same (client_value now d))
          ∙ (ap (λ xs. option_map (caller_after_replies d xs) (client_value now d)) (sym none)
          ∙ s.look d);
      many = s.many;
      once = s.once;
    }

-- the row of an answer's client is closed by it
pub closes-client : (rows : List (ClientRow Caller)) (n : ℕ) (x : Outcome) (a : Answered)
    (u : Caller) → n ≡ a.client → x ≡ a.outcome → Some u ≡ client_value rows n
    → ChangesCaller rows (with_client rows n (caller_after_answer (Some x) u)) a.client
    (caller_after_reply a)
closes-client rows n x a u same said is =
    subst (λ y. ChangesCaller rows (with_client rows n (caller_after_answer (Some x) u)) a.client
    (caller_after_answer (Some y))) said (changes-some (caller_after_answer
    (Some x)) rows n a.client u same is)

-- a row of client d after these answers
abbrev closed_log : ℕ → List (ℕ × ReplyView) → Caller → Caller
closed_log d [] v = v
closed_log d (p ∷ ps) v = closed_log d ps (cond (p.1.client == d) (caller_after_answer
    (Some p.1.outcome) v) v)

caller_after_answer-log_entry : (d : ℕ) (ts : List Answered) (v : Caller)
    → caller_after_replies d ts v ≡ closed_log d (map log_entry ts) v
caller_after_answer-log_entry d [] v = refl
caller_after_answer-log_entry d (a ∷ ts) v =
    caller_after_answer-log_entry d ts (cond (a.client == d) (caller_after_answer
    (Some a.outcome) v) v)

-- a row after an answer to its call, if there is one
abbrev closed_if : Option ReplyView → Caller → Caller
closed_if None v = v
closed_if (Some t) v = caller_after_answer (Some t.outcome) v

-- a client without a call at the barrier gets no answer
closed-none : (k d : ℕ) (ws : List WaitingCall) (v : Caller)
    → ((w : WaitingCall) → In w ws → w.client ≡ d → ⊥)
    → closed_log d (replies_with_place k (trip_replies ws)) v ≡ v
closed-none k d [] v f = refl
closed-none k d (w ∷ ws) v f =
    ap (λ t. closed_log d (replies_with_place k (trip_replies ws))
    (cond t (caller_after_answer (Some (trip_outcome ws)) v) v)) (ne_eqb w.client d (f w
    (inl refl)))
    ∙ closed-none k d ws v (λ u i e. f u (inr i) e)

-- a client with a call there gets the last answer to it
caller_after_answer-one : (k d j : ℕ) (ws : List WaitingCall) (v : Caller)
    → ((w : WaitingCall) → In w ws → (w.client == d) ≡ (w.place == j))
    → closed_log d (replies_with_place k (trip_replies ws)) v
    ≡ closed_if (last_to (replies_with_place k (trip_replies ws)) j) v
caller_after_answer-one k d j [] v f = refl
caller_after_answer-one k d j (w ∷ ws) v f =
    caller_after_answer-one k d j ws _ (λ u i. f u (inr i))
    ∙ go (last_to (replies_with_place k (trip_replies ws)) j) (w.client == d) (w.place == j) (f w
    (inl refl))
  where
    said : ReplyView
    said = record { client = w.client; place = w.place; outcome = trip_outcome ws }

    go : (late : Option ReplyView) (x y : Bool) → x ≡ y
        → closed_if late (cond x (caller_after_answer (Some said.outcome) v) v)
        ≡ closed_if (option_or late (cond y (Some said) None)) v
    go None true true e = refl
    go None false false e = refl
    go None true false e = absurd cc
    go None false true e = absurd cc
    go (Some t) true y e = refl
    go (Some t) false y e = refl

-- each call at the barrier gets an answer
told-some : (k : ℕ) (ws : List WaitingCall) (w : WaitingCall) → In w ws
    → last_to (replies_with_place k (trip_replies ws)) w.place ≡ None → ⊥
told-some k [] w i e = absurd i
told-some k (v ∷ vs) w i e =
    go i (last_to (replies_with_place k (trip_replies vs)) w.place) refl (v.place == w.place) refl
    (λ j l. told-some k vs w j l) e
  where
    said : ReplyView
    said = record { client = v.client; place = v.place; outcome = trip_outcome vs }

    go : In w (v ∷ vs) → (late : Option ReplyView)
        → last_to (replies_with_place k (trip_replies vs)) w.place ≡ late → (b : Bool)
        → (v.place == w.place) ≡ b
        → (In w vs → last_to (replies_with_place k (trip_replies vs)) w.place ≡ None → ⊥)
        → option_or late (cond b (Some said) None) ≡ None → ⊥
    go i (Some u) l b t ih e = cc
    go i None l true t ih e = cc
    go (inr i) None l false t ih e = ih i l
    go (inl same) None l false t ih e =
        let yes : (v.place == w.place) ≡ true =
        eq-eqb v.place w.place (ap (λ (u : WaitingCall). u.place) (sym same)) in
        absurd cc

module _ (h : History) (rows : List (ClientRow Caller)) (b : ℕ) (f : Follows h)
    (a : AreCallers h rows) (old : List (ℕ × ReplyView)) where
  -- the calls that the Trip answers
  abbrev pub tripped : List WaitingCall
  tripped = at_barrier b (open_calls h)

  -- the answers to these calls
  abbrev pub trip_log : List (ℕ × ReplyView)
  trip_log = replies_with_place (place h) (trip_replies (at_barrier b (open_calls h)))

  -- a client's call at the barrier is the one in its row
  its-call : (d : ℕ) (v : Caller) → client_value rows d ≡ Some v → (w : WaitingCall)
      → In w (at_barrier b (open_calls h)) → w.client ≡ d
      → option_map (λ (o : Open). o.call) v.open ≡ Some w
  its-call d v e w i c =
      let part = In-filter (arrives_at b) (open_calls h) w i in
      sym (ap (λ (x : Option Caller). call_in x) e) ∙ (a.look.calls d
      ∙ (ap (call_of (open_calls h)) (sym c) ∙ call_of-open h f w part.0))

  -- so the answer to that call closes the row
  closes-row : (d : ℕ) (v : Caller) → client_value rows d ≡ Some v → (first : Option Open)
      → v.open ≡ first → (t : Bool) → is_some_and (waits_at_barrier b) first ≡ t
      → closed_log d trip_log v
      ≡ cond t (caller_after_answer (option_and_then (λ (o : Open). outcome_in_log (old ++ trip_log)
      o.call.place) first) v) v
  closes-row d v e None at true t = absurd cc
  closes-row d v e None at false t =
      closed-none (place h) d tripped v (λ w i c.
      let its : ◌≡◌ {A = Option WaitingCall} None (Some w) =
      sym (ap (option_map (λ (o : Open). o.call)) at) ∙ its-call d v e w i c in cc)
  closes-row d v e (Some o) at false t =
      closed-none (place h) d tripped v (λ w i c.
      let its : Some o.call ≡ Some w =
      sym (ap (option_map (λ (o : Open). o.call)) at) ∙ its-call d v e w i c in
      let same : o.call ≡ w = cc in
      let part = In-filter (arrives_at b) (open_calls h) w i in
      let no : arrives_at b w ≡ false = ap (arrives_at b) (sym same) ∙ t in
      false≢true (sym no ∙ part.1))
  closes-row d v e (Some o) at true t =
      caller_after_answer-one (place h) d o.call.place tripped v tests
      ∙ said (last_to trip_log o.call.place) refl
    where
      mine : In o.call (open_calls h) × (o.call.client ≡ d)
      mine =
          call_of-in (open_calls h) d o.call (sym (a.look.calls d)
          ∙ (ap (λ (x : Option Caller). call_in x) e ∙ ap (option_map (λ (o : Open). o.call)) at))

      here : In o.call tripped
      here = filter-in (arrives_at b) (open_calls h) o.call mine.0 t

      tests : (w : WaitingCall) → In w tripped → (w.client == d) ≡ (w.place == o.call.place)
      tests w i = elim (cases_eq w.client d) [
        | inl c ↦
            let part = In-filter (arrives_at b) (open_calls h) w i in
            let same = one_each h f w o.call part.0 mine.0 (c ∙ sym mine.1) in
            rw (
              eq-eqb w.client d c,
              eq-eqb w.place o.call.place (ap (λ (u : WaitingCall). u.place) same),
            ) refl
        | inr ne ↦
            rw (
              ne_eqb w.client d ne,
              ne_eqb w.place o.call.place (λ p. ne
                  (ap (λ (u : WaitingCall). u.client)
                  (one-place 0 tripped (arrivals-ascend h b) w o.call i here p) ∙ mine.1)),
            ) refl
      ]

      said : (late : Option ReplyView) → last_to trip_log o.call.place ≡ late
          → closed_if (last_to trip_log o.call.place) v
          ≡ caller_after_answer (outcome_in_log (old ++ trip_log) o.call.place) v
      said None l = absurd (told-some (place h) tripped o.call here l)
      said (Some u) l =
          ap (λ x. closed_if x v) l
          ∙ ap (λ x. caller_after_answer x v)
          (sym (ap outcome_if (last_to-append old trip_log o.call.place
          ∙ ap (λ x. option_or x (last_to old o.call.place)) l)))

  -- each call at the barrier is closed with its answer in the log, and the other rows are unchanged
  pub closes-rewrites : (new : List (ClientRow Caller)) (ts : List Answered)
      (log : List (ℕ × ReplyView)) → map log_entry ts ≡ trip_log → log ≡ old ++ trip_log
      → ClosesBy rows new ts → RewritesCallers rows new (caller_after_trip b log)
  closes-rewrites new ts log e l c =
      record {
        look = λ d. c.look d ∙ found d (client_value rows d) refl;
        many = c.many;
        once = c.once;
      }
    where
      found : (d : ℕ) (kept : Option Caller) → client_value rows d ≡ kept
          → option_map (caller_after_replies d ts) kept ≡ option_map (caller_after_trip b log) kept
      found d None at = refl
      found d (Some v) at =
          ap Some (caller_after_answer-log_entry d ts v ∙ (ap (λ ps. closed_log d ps v) e
          ∙ (closes-row d v at v.open refl (is_some_and (waits_at_barrier b) v.open) refl
          ∙ ap (λ ps. caller_after_trip b ps v) (sym l))))
