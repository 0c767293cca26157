-- Ends: what is known of the open calls when they are looked at one by one, from their end.
use Rattle.std.proofs.Common.{◌≡◌, ℕ, suc, inl, inr, ◌+◌, ◌-◌, ◌<◌, Bool, true, false, cond, List}
use Rattle.std.proofs.Common.{[], ◌∷◌, ◌++◌, Option, Some, None, refl, sym, ap, ◌∙◌, filter, length}
use Rattle.std.proofs.Common.{length-append, take, get_or, arith}
use Rattle.pt_model.specs.declared.entry.Entry.{Entry}
use Rattle.std.proofs.lemmas.List.Elements.{filter-append}
use Rattle.std.proofs.lemmas.Bool.{cases_order}
use Rattle.pt_model.specs.Histories.{History, ◌▷◌, place, history}
use Rattle.pt_model.specs.Searches.{least, option_list}
use Rattle.pt_model.specs.declared.waiting_call.WaitingCall.{WaitingCall}
use Rattle.pt_model.specs.WaitingCall.{call_at_place, waiting_calls, waiting_calls_by}
use Rattle.pt_model.specs.Answers.{open_calls, outcome, is_open_by}
use Rattle.pt_model.specs.Verdicts.{bound_mutex}
use Rattle.pt_model.specs.Found.{is_some_and, option_filter}
use Rattle.pt_model.proofs.Ascending.{from, upto, upto_more, upto-before, upto_all}
use Rattle.pt_model.proofs.Ascending.{call_at_place-append_right, call_at_place-below, Each-weaker}
use Rattle.pt_readings.proofs.Prefix.{place_all, history_more}
use Rattle.pt_readings.proofs.Stood.{call_at_place-here, newest, newest-other, waiting_calls-below}
use Rattle.pt_model.proofs.OpenOrder.{open-ascends}
use Rattle.pt_readings.proofs.Opens.{open-within, open_from_less, at_place_open}
use Rattle.pt_reference.specs.Best.{best_of, awaited_or}

filter-option_list :
    (p : WaitingCall → Bool) (o : Option WaitingCall) (ws : List WaitingCall)
    → filter p (option_list o ++ ws) ≡ option_list (option_filter p o) ++ filter p ws
filter-option_list p None ws = refl
filter-option_list p (Some w) ws = go (p w)
  where
    go : (b : Bool) → cond b (w ∷ filter p ws) (filter p ws)
        ≡ option_list (cond b (Some w) None) ++ filter p ws
    go true = refl
    go false = refl

-- the calls that pass a test, with one more call
filter-less :
    (h : History) (p : WaitingCall → Bool) (i : ℕ) → 0 < i
    → filter p (from (i - 1) (open_calls h))
    ≡ option_list (option_filter p (call_at_place (i - 1) (open_calls h)))
    ++ filter p (from i (open_calls h))
filter-less h p i lt =
    ap (filter p) (open_from_less h i lt)
    ∙ filter-option_list p (call_at_place (i - 1) (open_calls h)) (from i (open_calls h))

least-option_list :
    (before : WaitingCall → WaitingCall → Bool) (o : Option WaitingCall) (ws : List WaitingCall)
    → least before (option_list o ++ ws) ≡ best_of before o (least before ws)
least-option_list before None ws = refl
least-option_list before (Some w) ws = refl

-- the least, with one more call
pub least-less :
    (h : History) (before : WaitingCall → WaitingCall → Bool) (p : WaitingCall → Bool) (i : ℕ)
    → 0 < i
    → least before (filter p (from (i - 1) (open_calls h)))
    ≡ best_of before (option_filter p (call_at_place (i - 1) (open_calls h)))
    (least before (filter p (from i (open_calls h))))
least-less h before p i lt =
    ap (least before) (filter-less h p i lt)
    ∙ least-option_list before (option_filter p (call_at_place (i - 1) (open_calls h)))
    (filter p (from i (open_calls h)))

bound-option_list :
    (o : Option WaitingCall) (ws : List WaitingCall)
    → bound_mutex (option_list o ++ ws) ≡ awaited_or o (bound_mutex ws)
bound-option_list None ws = refl
bound-option_list (Some w) ws = refl

-- the mutex of the first, with one more call
pub bound-less :
    (h : History) (p : WaitingCall → Bool) (i : ℕ) → 0 < i
    → bound_mutex (filter p (from (i - 1) (open_calls h)))
    ≡ awaited_or (option_filter p (call_at_place (i - 1) (open_calls h)))
    (bound_mutex (filter p (from i (open_calls h))))
bound-less h p i lt =
    ap bound_mutex (filter-less h p i lt)
    ∙ bound-option_list (option_filter p (call_at_place (i - 1) (open_calls h))) (filter p (from i
    (open_calls h)))

-- how many calls pass a test, with one more call
pub length-more :
    (h : History) (q : WaitingCall → Bool) (i : ℕ)
    → length (filter q (upto (i + 1) (open_calls h)))
    ≡ length (filter q (upto i (open_calls h)))
    + cond (is_some_and q (call_at_place i (open_calls h))) 1 0
length-more h q i =
    ap (λ ws. length (filter q ws)) (upto_more i 0 (open_calls h) (open-ascends h))
    ∙ ap length (filter-append q (upto i (open_calls h)) (option_list (call_at_place i
    (open_calls h))))
    ∙ length-append (filter q (upto i (open_calls h)))
    (filter q (option_list (call_at_place i (open_calls h))))
    ∙ ap (λ n. length (filter q (upto i (open_calls h))) + n) (go (call_at_place i (open_calls h)))
  where
    go : (o : Option WaitingCall) → length (filter q (option_list o)) ≡ cond (is_some_and q o) 1 0
    go None = refl
    go (Some w) = pick (q w)
      where
        pick : (b : Bool) → length (cond b (w ∷ []) []) ≡ cond b 1 0
        pick true = refl
        pick false = refl

-- if that call passes
pub length_yes :
    (h : History) (q : WaitingCall → Bool) (i : ℕ) → is_some_and q (call_at_place i (open_calls h))
    ≡ true
    → length (filter q (upto (i + 1) (open_calls h)))
    ≡ length (filter q (upto i (open_calls h))) + 1
length_yes h q i e = length-more h q i ∙ rw e refl

-- if it fails
pub length_no :
    (h : History) (q : WaitingCall → Bool) (i : ℕ) → is_some_and q (call_at_place i (open_calls h))
    ≡ false
    → length (filter q (upto (i + 1) (open_calls h))) ≡ length (filter q (upto i (open_calls h)))
length_no h q i e = length-more h q i ∙ rw e (omega arith)

-- no calls are before place 0
pub upto_none : (h : History) → upto 0 (open_calls h) ≡ []
upto_none h = upto-before 0 0 (open_calls h) (open-ascends h) (omega arith)

-- all calls are before the end
pub upto_end :
    (es : List Entry)
    → upto (length es) (open_calls (history es)) ≡ open_calls (history es)
upto_end es = upto_all (length es) (open_calls (history es)) (open-within es)

-- two equal arguments
pub both :
    {A B C : Type 0} (f : A → B → C) {a c : A} {b d : B} → a ≡ c → b ≡ d → f a b ≡ f c d
both f {a} {c} {b} {d} e k = ap (λ x. f x b) e ∙ ap (f c) k

-- the place of the next entry
pub place_of_all : (es : List Entry) → place (history es) ≡ length es
place_of_all es = place_all es

-- an open call at a place
pub open_yes :
    (h : History) (i : ℕ) (w : WaitingCall) → Some w ≡ call_at_place i (waiting_calls h)
    → is_open_by h (outcome h) w ≡ true → Some w ≡ call_at_place i (open_calls h)
open_yes h i w e open_now =
    sym (at_place_open h i ∙ ap (option_filter (is_open_by h (outcome h))) (sym e)
    ∙ rw open_now refl)

-- a call at a place that isn't open
pub open_no :
    (h : History) (i : ℕ) (w : WaitingCall) → Some w ≡ call_at_place i (waiting_calls h)
    → is_open_by h (outcome h) w ≡ false → None ≡ call_at_place i (open_calls h)
open_no h i w e shut =
    sym (at_place_open h i ∙ ap (option_filter (is_open_by h (outcome h))) (sym e) ∙ rw shut refl)

-- no call at a place
pub open_none :
    (h : History) (i : ℕ) → None ≡ call_at_place i (waiting_calls h) → None
    ≡ call_at_place i (open_calls h)
open_none h i e = sym (at_place_open h i ∙ ap (option_filter (is_open_by h (outcome h))) (sym e))

-- the call that one more entry leaves waiting
pub stood_new :
    (es : List Entry) (e : Entry) (o : Option WaitingCall) (i : ℕ)
    → option_list o ≡ waiting_calls_by (history es) e → i ≡ length es
    → o ≡ call_at_place i (waiting_calls (history es ▷ e))
stood_new es e o i is same =
    let h = history es in
    let k : place h ≡ i = omega (arith, place_all es) in
    call_at_place-here h e [] o is ∙ ap (λ j. call_at_place j (waiting_calls (h ▷ e))) k

-- the calls that earlier entries left waiting
pub stood_old :
    (es : List Entry) (e : Entry) (i : ℕ) → (i ≡ length es → ⊥)
    → call_at_place i (waiting_calls (history es))
    ≡ call_at_place i (waiting_calls (history es ▷ e))
stood_old es e i other =
    elim (cases_order i (place (history es))) [
      | inl same ↦ absurd (other (same ∙ place_all es))
      | inr (inl before) ↦
          let h = history es in
          sym (call_at_place-append_right i (waiting_calls h) (waiting_calls_by h e)
          (newest-other (place h) i (newest h e) before))
      | inr (inr behind) ↦
          let h = history es in
          call_at_place-below i (waiting_calls h)
          (Each-weaker (λ w. w.place < place h) (λ w. w.place < i) (λ w lt. omega arith)
          (waiting_calls h) (waiting_calls-below h))
          ∙ sym (call_at_place-below i (waiting_calls (h ▷ e))
          (Each-weaker (λ w. w.place < suc (place h)) (λ w. w.place < i) (λ w lt. omega arith)
          (waiting_calls (h ▷ e)) (waiting_calls-below (h ▷ e))))
    ]

-- the history of one more entry
pub one_more :
    (es : List Entry) (i : ℕ) (d : Entry) → i < length es
    → history (take (i + 1) es) ≡ history (take i es) ▷ get_or es i d
one_more es i d lt = history_more es i d lt

-- how many of the open calls pass a test, one call after another
pub ruleset counting = (length_yes, length_no, upto_none, upto_end)
