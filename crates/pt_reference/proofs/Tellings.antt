-- Tellings: the answers that an entry gives are in order of their places, and each is the outcome.
use Rattle.std.proofs.Common.{◌≡◌, ℕ, suc, ◌+◌, ◌<◌, ◌≤◌, Bool, true, false, cond, eqb, ltb, List}
use Rattle.std.proofs.Common.{[], ◌∷◌, ◌++◌, Option, Some, None, refl, sym, ap, ◌∙◌, arith, filter}
use Rattle.std.proofs.Common.{inl, inr}
use Rattle.std.specs.Prelude.{◌&&◌, ◌==◌}
use Rattle.std.proofs.lemmas.Bool.{eq-eqb, ne_eqb, cases_eq, cases_order, lt-ltb, le-ltb}
use Rattle.pt_types.specs.declared.outcome.Outcome.{Outcome}
use Rattle.pt_types.specs.declared.outcome.Outcome.TheVariants.{Etimedout}
use Rattle.pt_model.specs.declared.entry.Entry.{Entry}
use Rattle.pt_model.specs.declared.entry.Entry.TheVariants.{Join, Call, Death, Moment, Grant, Trip}
use Rattle.pt_model.specs.declared.entry.Entry.TheVariants.{Yield, Expire}
use Rattle.pt_model.specs.Histories.{History, place}
use Rattle.pt_model.specs.Searches.{option_list}
use Rattle.pt_model.specs.Records.{ReplyView}
use Rattle.pt_model.specs.declared.waiting_call.WaitingCall.{WaitingCall}
use Rattle.pt_model.specs.WaitingCall.{waiting_calls, call_at_place, is_barrier_wait}
use Rattle.pt_model.specs.WaitingCall.{is_cond_wait_if}
use Rattle.pt_model.specs.Answers.{entry_replies, trip_replies, expiry_replies, at_barrier}
use Rattle.pt_model.specs.Answers.{trip_outcome}
use Rattle.pt_model.specs.Answers.{outcome_in, open_calls, client_or_zero, is_open_by, outcome}
use Rattle.pt_model.specs.Queries.{reply_if}
use Rattle.pt_model.specs.Found.{option_filter}
use Rattle.pt_model.proofs.Ascending.{Ascends, Ascends-filter, call_at_place-filter}
use Rattle.pt_model.proofs.OpenOrder.{open-ascends}
use Rattle.pt_readings.proofs.Opens.{at_place_open}
use Rattle.pt_reference.specs.PlainReplies.{reply_at_place, client_of_reply}

-- each place is greater than those before it, and at least n
abbrev pub Climbs : ℕ → List ReplyView → Type 0
Climbs n [] = Unit {0}
Climbs n (t ∷ ts) = (n ≤ t.place) × Climbs (suc t.place) ts

-- the answers to calls before a place
abbrev pub told_before : ℕ → List ReplyView → List ReplyView
told_before i ts = filter (λ t. ltb t.place i) ts

reply_at_place-before : (j n : ℕ) (ts : List ReplyView) → Climbs n ts → j < n → reply_at_place j ts ≡ None
reply_at_place-before j n [] a lt = refl
reply_at_place-before j n (t ∷ ts) a lt =
    rw (ne_eqb t.place j (λ e. omega (arith, a.0)))
    (reply_at_place-before j (suc t.place) ts a.1 (omega (arith, a.0)))

before-before : (i n : ℕ) (ts : List ReplyView) → Climbs n ts → i ≤ n → told_before i ts ≡ []
before-before i n [] a le = refl
before-before i n (t ∷ ts) a le =
    rw (le-ltb t.place i (omega (arith, a.0)))
    (before-before i (suc t.place) ts a.1 (omega (arith, a.0)))

-- the answers to calls before the next place
pub entry_replies-more :
    (j n : ℕ) (ts : List ReplyView) → Climbs n ts
    → told_before (j + 1) ts ≡ told_before j ts ++ option_list (reply_at_place j ts)
entry_replies-more j n [] a = refl
entry_replies-more j n (t ∷ ts) a =
    elim (cases_order t.place j) [
      | inl same ↦
          rw (lt-ltb t.place (j + 1) (omega (arith, same)), le-ltb t.place j (omega (arith, same)))
          (rw (
            eq-eqb t.place j same,
            before-before (j + 1) (suc t.place) ts a.1 (omega (arith, same)),
            before-before j (suc t.place) ts a.1 (omega (arith, same)),
          ) refl)
      | inr (inl before) ↦
          rw (lt-ltb t.place (j + 1) (omega (arith, before)), lt-ltb t.place j before)
          (rw (ne_eqb t.place j (λ e. omega (arith, before)))
          (ap (λ us. t ∷ us) (entry_replies-more j (suc t.place) ts a.1)))
      | inr (inr behind) ↦
          rw (
            le-ltb t.place (j + 1) (omega (arith, behind)),
            le-ltb t.place j (omega (arith, behind)),
          )
          (rw (ne_eqb t.place j (λ e. omega (arith, behind))) (entry_replies-more j
          (suc t.place) ts a.1))
    ]

one-place :
    (c d i j : ℕ) (x : Outcome) → (i ≡ j → c ≡ d)
    → reply_at_place j (record { client = c; place = i; outcome = x } ∷ [])
    ≡ reply_if d j (outcome_in (record { client = c; place = i; outcome = x } ∷ []) j)
one-place c d i j x f =
    elim (cases_eq i j) [
      | inl e ↦ rw (eq-eqb i j e) (same (f e) e)
      | inr ne ↦ rw (ne_eqb i j ne) refl
    ]
  where
    said : ℕ → ℕ → Option ReplyView
    said k p = Some (record { client = k; place = p; outcome = x })

    same : c ≡ d → i ≡ j → said c i ≡ said d j
    same k e = rw (k, e) refl

trip-place :
    (j n : ℕ) (ws : List WaitingCall) → Ascends n ws
    → reply_at_place j (trip_replies ws)
    ≡ reply_if (client_or_zero (call_at_place j ws)) j (outcome_in (trip_replies ws) j)
trip-place j n [] a = refl
trip-place j n (w ∷ ws) a =
    elim (cases_eq w.place j) [
      | inl e ↦ rw (eq-eqb w.place j e) (same e)
      | inr ne ↦ rw (ne_eqb w.place j ne) (trip-place j (suc w.place) ws a.1)
    ]
  where
    said : ℕ → Option ReplyView
    said p = Some (record { client = w.client; place = p; outcome = trip_outcome ws })

    same : w.place ≡ j → said w.place ≡ said j
    same e = ap said e

outcome-none : (j n : ℕ) (ws : List WaitingCall) → Ascends n ws → call_at_place j ws ≡ None
    → outcome_in (trip_replies ws) j ≡ None
outcome-none j n [] a e = refl
outcome-none j n (w ∷ ws) a e = go (eqb w.place j) e (λ k. outcome-none j (suc w.place) ws a.1 k)
  where
    go : (b : Bool) → cond b (Some w) (call_at_place j ws) ≡ None
        → (call_at_place j ws ≡ None → outcome_in (trip_replies ws) j ≡ None)
        → cond b (Some (trip_outcome ws)) (outcome_in (trip_replies ws) j) ≡ None
    go true k ih = absurd cc
    go false k ih = ih k

kept-some :
    (p : WaitingCall → Bool) (o : Option WaitingCall) (w : WaitingCall) → option_filter p o ≡ Some w
    → o ≡ Some w
kept-some p None w e = absurd cc
kept-some p (Some v) w e = go (p v) e
  where
    go : (b : Bool) → cond b (Some v) None ≡ Some w → Some v ≡ Some w
    go true k = k
    go false k = absurd cc

-- a Trip answers the client of the call at a place
trip-client :
    (h : History) (b j : ℕ)
    → reply_if (client_or_zero (call_at_place j (at_barrier b (open_calls h)))) j
    (outcome_in (trip_replies (at_barrier b (open_calls h))) j)
    ≡ reply_if (client_or_zero (call_at_place j (waiting_calls h))) j
    (outcome_in (trip_replies (at_barrier b (open_calls h))) j)
trip-client h b j = go (call_at_place j ws) refl
  where
    ws : List WaitingCall
    ws = at_barrier b (open_calls h)

    q : WaitingCall → Bool
    q w = is_barrier_wait w.role && (w.object == b)

    climbs : Ascends 0 ws
    climbs = Ascends-filter q 0 (open_calls h) (open-ascends h)

    found : (w : WaitingCall) → call_at_place j ws ≡ Some w → call_at_place j (waiting_calls h)
        ≡ Some w
    found w e =
        kept-some (is_open_by h (outcome h)) (call_at_place j (waiting_calls h)) w
        (sym (at_place_open h j)
        ∙ kept-some q (call_at_place j (open_calls h)) w
        (sym (call_at_place-filter q j 0 (open_calls h) (open-ascends h)) ∙ e))

    go : (o : Option WaitingCall) → call_at_place j ws ≡ o
        → reply_if (client_or_zero (call_at_place j ws)) j (outcome_in (trip_replies ws) j)
        ≡ reply_if (client_or_zero (call_at_place j (waiting_calls h))) j (outcome_in
        (trip_replies ws) j)
    go None e = rw (outcome-none j 0 ws climbs e) refl
    go (Some w) e =
        ap (λ o. reply_if (client_or_zero o) j (outcome_in (trip_replies ws) j)) (e
        ∙ sym (found w e))

-- the answer to the call at a place gives its outcome to its client
pub replies_at_place :
    (h : History) (e : Entry) (j : ℕ)
    → reply_at_place j (entry_replies h e)
    ≡ reply_if (client_of_reply h e j) j (outcome_in (entry_replies h e) j)
replies_at_place h (Call c call (Some x)) j = one-place c c (place h) j x (λ e. refl)
replies_at_place h (Call c call None) j = refl
replies_at_place h (Join c p) j = refl
replies_at_place h (Death c) j = refl
replies_at_place h (Moment k t) j = refl
replies_at_place h (Grant i x) j =
    one-place (client_or_zero (call_at_place i (waiting_calls h))) (client_or_zero (call_at_place j
    (waiting_calls h))) i j x
    (λ e. ap (λ k. client_or_zero (call_at_place k (waiting_calls h))) e)
replies_at_place h (Trip b) j =
    trip-place j 0 (at_barrier b (open_calls h))
    (Ascends-filter (λ w. is_barrier_wait w.role
    && (w.object == b)) 0 (open_calls h) (open-ascends h))
    ∙ trip-client h b j
replies_at_place h (Yield m) j = refl
replies_at_place h (Expire i) j = go (is_cond_wait_if (call_at_place i (waiting_calls h)))
  where
    go : (b : Bool) → reply_at_place j (expiry_replies i (call_at_place i (waiting_calls h)) b)
        ≡ reply_if (client_or_zero (call_at_place j (waiting_calls h))) j
        (outcome_in (expiry_replies i (call_at_place i (waiting_calls h)) b) j)
    go true = refl
    go false =
        one-place (client_or_zero (call_at_place i (waiting_calls h))) (client_or_zero
        (call_at_place j (waiting_calls h))) i j
        Etimedout
        (λ e. ap (λ k. client_or_zero (call_at_place k (waiting_calls h))) e)
