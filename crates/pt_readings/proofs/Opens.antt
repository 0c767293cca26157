-- Opens: the open calls in order of their places, and what a Trip answers to each.
use Rattle.std.proofs.Common.{◌≡◌, ℕ, suc, ◌+◌, ◌-◌, ◌<◌, ◌≤◌, Bool, true, false, ◌&&◌, ◌||◌, cond}
use Rattle.std.proofs.Common.{ltb, List, [], ◌∷◌, ◌++◌, length, Option, Some, None, is_some}
use Rattle.std.proofs.Common.{is_none, refl, ap, ◌∙◌, arith, filter, inl, inr}
use Rattle.std.specs.List.{list_any, list_all}
use Rattle.std.proofs.lemmas.Bool.{eq-eqb, ne_eqb, lt-ltb, le-ltb, cases_order}
use Rattle.pt_types.specs.declared.outcome.Outcome.{Outcome}
use Rattle.pt_types.specs.declared.outcome.Outcome.TheVariants.{Done, Serial}
use Rattle.pt_model.specs.declared.entry.Entry.{Entry}
use Rattle.pt_model.specs.Histories.{History, place, history}
use Rattle.pt_model.specs.Searches.{Each, option_list}
use Rattle.pt_model.specs.declared.waiting_call.WaitingCall.{WaitingCall}
use Rattle.std.specs.Prelude.{◌==◌, not}
use Rattle.pt_model.specs.Clients.{is_alive}
use Rattle.pt_model.specs.WaitingCall.{waiting_calls, call_at_place, is_barrier_wait}
use Rattle.pt_model.specs.Answers.{outcome, open_calls, is_open_by, trip_replies, outcome_in}
use Rattle.pt_model.specs.Answers.{trip_outcome, at_barrier, place_of_client}
use Rattle.pt_model.specs.Found.{is_some_and, option_filter}
use Rattle.pt_readings.specs.Found.{is_alive_at, place_or}
use Rattle.pt_model.proofs.Ascending.{Ascends, Ascends-filter, Ascends-weaker, Each-filter}
use Rattle.pt_model.proofs.Ascending.{Each-weaker, from, from_all, from_more, from-before}
use Rattle.pt_model.proofs.Ascending.{call_at_place-filter, call_at_place-before, call_at_place-place, any-filter}
use Rattle.pt_model.proofs.Ascending.{any-at, any-nowhere}
use Rattle.pt_model.proofs.OpenOrder.{waiting_calls-ascends}
use Rattle.pt_readings.proofs.Stood.{waiting_calls-below}
use Rattle.pt_readings.proofs.Prefix.{place_all}
use Rattle.pt_model.proofs.OpenOrder.{open-ascends, open-below}

-- the open call at a place
pub at_place_open :
    (h : History) (i : ℕ)
    → call_at_place i (open_calls h)
    ≡ option_filter (is_open_by h (outcome h)) (call_at_place i (waiting_calls h))
at_place_open h i = call_at_place-filter (is_open_by h (outcome h)) i 0 (waiting_calls h)
    (waiting_calls-ascends h)

pub is_some_and-option_filter :
    (p q : WaitingCall → Bool) (o : Option WaitingCall)
    → is_some_and q (option_filter p o) ≡ is_some_and (λ w. q w && p w) o
is_some_and-option_filter p q None = refl
is_some_and-option_filter p q (Some w) = go (p w) (q w)
  where
    go : (b c : Bool) → is_some_and q (cond b (Some w) None) ≡ (q w && b)
    go true c = both (q w)
      where
        both : (b : Bool) → b ≡ (b && true)
        both true = refl
        both false = refl
    go false c = none (q w)
      where
        none : (b : Bool) → false ≡ (b && false)
        none true = refl
        none false = refl

-- a test of the open call at a place
pub passes_open :
    (h : History) (i : ℕ) (q : WaitingCall → Bool)
    → is_some_and q (call_at_place i (open_calls h))
    ≡ is_some_and (λ w. q w && is_open_by h (outcome h) w) (call_at_place i (waiting_calls h))
passes_open h i q =
    ap (is_some_and q) (at_place_open h i)
    ∙ is_some_and-option_filter (is_open_by h (outcome h)) q (call_at_place i (waiting_calls h))

-- all open calls are before the end
pub open-within : (es : List Entry) → Each (λ w. w.place < length es) (open_calls (history es))
open-within es =
    Each-weaker (λ w. w.place < place (history es)) (λ w. w.place < length es)
    (λ w lt. omega (arith, place_all es)) (open_calls (history es)) (open-below (history es))

-- a call that is found at a place is among the open calls
pub open-found :
    (es : List Entry) (p q : WaitingCall → Bool) (i : ℕ)
    → is_some_and (λ w. q w && p w) (call_at_place i (open_calls (history es))) ≡ true
    → list_any p (filter q (open_calls (history es))) ≡ true
open-found es p q i e =
    any-filter p q (open_calls (history es))
    ∙ any-at (λ w. q w && p w) i (open_calls (history es)) e

-- a call that is found at no place is not among them
pub open-nowhere :
    (es : List Entry) (p q : WaitingCall → Bool) (n : ℕ) → length es ≤ n
    → ((k : ℕ) → k < n → is_some_and (λ w. q w && p w) (call_at_place k (open_calls (history es)))
    ≡ false)
    → list_any p (filter q (open_calls (history es))) ≡ false
open-nowhere es p q n le f =
    any-filter p q (open_calls (history es))
    ∙ any-nowhere (λ w. q w && p w) 0 (length es) (open_calls (history es))
    (open-ascends (history es)) (open-within es) (λ k lt. f k (omega arith))

-- the open calls from one place earlier on
pub open_from_less :
    (h : History) (i : ℕ) → 0 < i
    → from (i - 1) (open_calls h)
    ≡ option_list (call_at_place (i - 1) (open_calls h)) ++ from i (open_calls h)
open_from_less h i lt =
    let e : i - 1 + 1 ≡ i = omega arith in
    from_more (i - 1) 0 (open_calls h) (open-ascends h)
    ∙ ap (λ k. option_list (call_at_place (i - 1) (open_calls h)) ++ from k (open_calls h)) e

-- all of them, from place 0 on
pub open_from_none : (h : History) → from 0 (open_calls h) ≡ open_calls h
open_from_none h = from-before 0 0 (open_calls h) (open-ascends h) (omega arith)

-- none of them, from the end on
pub open_from_all : (es : List Entry) → from (length es) (open_calls (history es)) ≡ []
open_from_all es = from_all (length es) (open_calls (history es)) (open-within es)

place_of_client-option_list :
    (o : Option WaitingCall) (ws : List WaitingCall) (c : ℕ)
    → place_of_client (option_list o ++ ws) c ≡ place_or o c (place_of_client ws c)
place_of_client-option_list None ws c = refl
place_of_client-option_list (Some w) ws c = refl

-- the place of a client's call, from one place earlier on
pub place_of_client-less :
    (h : History) (i c : ℕ) → 0 < i
    → place_of_client (from (i - 1) (open_calls h)) c
    ≡ place_or (call_at_place (i - 1) (open_calls h)) c (place_of_client (from i (open_calls h)) c)
place_of_client-less h i c lt =
    ap (λ ws. place_of_client ws c) (open_from_less h i lt)
    ∙ place_of_client-option_list (call_at_place (i - 1) (open_calls h)) (from i (open_calls h)) c

-- what a Trip answers to a call, if it waits at the barrier: SERIAL, unless a later one waits there
abbrev pub call_outcome : (present later : Bool) → Option Outcome
call_outcome false later = None
call_outcome true true = Some Done
call_outcome true false = Some Serial

any-behind :
    (j : ℕ) (ws : List WaitingCall) → Ascends (suc j) ws
    → Some (trip_outcome ws) ≡ call_outcome true (list_any (λ w. ltb j w.place) ws)
any-behind j [] a = refl
any-behind j (w ∷ ws) a = rw (lt-ltb j w.place (omega (arith, a.0))) refl

pub outcome_in_trip :
    (j n : ℕ) (ws : List WaitingCall) → Ascends n ws
    → outcome_in (trip_replies ws) j
    ≡ call_outcome (is_some (call_at_place j ws)) (list_any (λ w. ltb j w.place) ws)
outcome_in_trip j n [] a = refl
outcome_in_trip j n (w ∷ ws) a =
    elim (cases_order w.place j) [
      | inl same ↦
          rw (eq-eqb w.place j same, le-ltb j w.place (omega (arith, same)))
          (any-behind j ws (Ascends-weaker (suc j) (suc w.place) ws (omega (arith, same)) a.1))
      | inr (inl before) ↦
          rw (
            ne_eqb w.place j (λ e. omega (arith, before)),
            le-ltb j w.place (omega (arith, before)),
          )
          (outcome_in_trip j (suc w.place) ws a.1)
      | inr (inr behind) ↦
          rw (ne_eqb w.place j (λ e. omega (arith, behind)))
          (outcome_in_trip j (suc w.place) ws a.1
          ∙ rw (call_at_place-before j (suc w.place) ws a.1 (omega (arith, behind))) refl)
    ]

present :
    (j : ℕ) (q : WaitingCall → Bool) (n : ℕ) (ws : List WaitingCall) → Ascends n ws
    → is_some (call_at_place j (filter q ws)) ≡ is_some_and q (call_at_place j ws)
present j q n ws a = ap is_some (call_at_place-filter q j n ws a) ∙ go (call_at_place j ws)
  where
    go : (o : Option WaitingCall) → is_some (option_filter q o) ≡ is_some_and q o
    go None = refl
    go (Some w) = pick (q w)
      where
        pick : (b : Bool) → is_some (cond b (Some w) None) ≡ b
        pick true = refl
        pick false = refl

-- whether a call without an answer waits at the barrier
waiting :
    (h : History) (b j : ℕ)
    → is_some_and (λ w. is_barrier_wait w.role && (w.object == b)) (call_at_place j (open_calls h))
    ≡ (is_none (outcome h j) && is_some_and (is_alive_at h b) (call_at_place j (waiting_calls h)))
waiting h b j =
    passes_open h j (λ w. is_barrier_wait w.role && (w.object == b))
    ∙ go (call_at_place j (waiting_calls h)) refl
  where
    swap : (x y z : Bool) → (x && (y && z)) ≡ (y && (x && z))
    swap true y z = refl
    swap false true z = refl
    swap false false z = refl

    none : (x : Bool) → false ≡ (x && false)
    none true = refl
    none false = refl

    go : (o : Option WaitingCall) → call_at_place j (waiting_calls h) ≡ o
        → is_some_and (λ w. (is_barrier_wait w.role && (w.object == b))
        && is_open_by h (outcome h) w) o
        ≡ (is_none (outcome h j) && is_some_and (is_alive_at h b) o)
    go None e = none (is_none (outcome h j))
    go (Some w) e =
        ap
        (λ k.
        (is_barrier_wait w.role && (w.object == b)) && (is_none (outcome h k)
        && is_alive h w.client))
        (call_at_place-place j (waiting_calls h) w e)
        ∙ swap (is_barrier_wait w.role && (w.object == b)) (is_none (outcome h j))
        (is_alive h w.client)

-- what a Trip answers to the call at a place
pub trip_call_outcome :
    (h : History) (b j : ℕ)
    → outcome_in (trip_replies (at_barrier b (open_calls h))) j
    ≡ call_outcome (is_none (outcome h j) && is_some_and (is_alive_at h b) (call_at_place j
    (waiting_calls h)))
    (list_any (λ w. ltb j w.place) (at_barrier b (open_calls h)))
trip_call_outcome h b j =
    let q = λ (w : WaitingCall). is_barrier_wait w.role && (w.object == b) in
    outcome_in_trip j 0 (at_barrier b (open_calls h))
    (Ascends-filter q 0 (open_calls h) (open-ascends h))
    ∙ ap (λ x. call_outcome x (list_any (λ w. ltb j w.place) (at_barrier b (open_calls h))))
    (present j q 0 (open_calls h) (open-ascends h) ∙ waiting h b j)

not-any :
    (p : WaitingCall → Bool) (ws : List WaitingCall)
    → list_all (λ v. not (p v)) ws ≡ not (list_any p ws)
not-any p [] = refl
not-any p (w ∷ ws) = go (p w) (not-any p ws)
  where
    go : (b : Bool) → list_all (λ v. not (p v)) ws ≡ not (list_any p ws)
        → (not b && list_all (λ v. not (p v)) ws) ≡ not (b || list_any p ws)
    go true ih = refl
    go false ih = ih

-- not all calls fail a test if one that passes is found
pub all-found :
    (es : List Entry) (p q : WaitingCall → Bool) (i : ℕ)
    → is_some_and (λ w. q w && p w) (call_at_place i (open_calls (history es))) ≡ true
    → list_all (λ v. not (p v)) (filter q (open_calls (history es))) ≡ false
all-found es p q i e =
    not-any p (filter q (open_calls (history es))) ∙ ap not (open-found es p q i e)

-- all calls fail a test if none that passes is found
pub all-nowhere :
    (es : List Entry) (p q : WaitingCall → Bool) (n : ℕ) → length es ≤ n
    → ((k : ℕ) → k < n → is_some_and (λ w. q w && p w) (call_at_place k (open_calls (history es)))
    ≡ false)
    → list_all (λ v. not (p v)) (filter q (open_calls (history es))) ≡ true
all-nowhere es p q n le f =
    not-any p (filter q (open_calls (history es))) ∙ ap not (open-nowhere es p q n le f)
