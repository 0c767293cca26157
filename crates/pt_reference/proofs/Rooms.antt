-- Rooms: sums over the open calls, and counts of numbers, one more at a time.
use Rattle.std.proofs.Common.{◌≡◌, ℕ, suc, ◌+◌, ◌<◌, Bool, true, false, List, ◌++◌, Option, Some}
use Rattle.std.proofs.Common.{None, refl, sym, ap, ◌∙◌, arith, map, sum, length, add-one, take}
use Rattle.std.proofs.Common.{take_all, get_or}
use Rattle.std.proofs.lemmas.List.Sums.{sum-map, sum_by-append}
use Rattle.std.specs.List.{sum_by}
use Rattle.pt_model.specs.declared.entry.Entry.{Entry}
use Rattle.pt_model.specs.Histories.{History, ◌▷◌, place, history}
use Rattle.pt_model.specs.Searches.{option_list, count_below}
use Rattle.pt_model.specs.declared.waiting_call.WaitingCall.{WaitingCall}
use Rattle.pt_model.specs.WaitingCall.{call_at_place}
use Rattle.pt_model.specs.Answers.{open_calls}
use Rattle.pt_model.specs.Room.{reserved_for}
use Rattle.pt_model.proofs.Ascending.{upto, upto_more, upto-before, upto_all, Each-weaker}
use Rattle.pt_model.proofs.OpenOrder.{open-ascends, open-below}
use Rattle.pt_readings.proofs.Prefix.{place_all, history_more}
use Rattle.pt_reference.proofs.Ends.{both}
use Rattle.pt_reference.specs.Best.{reserved_of}

-- what is reserved for these calls
abbrev pub reserved_for_all : History → List WaitingCall → ℕ
reserved_for_all h ws = sum (map (reserved_for h) ws)

reserved-append :
    (h : History) (vs : List WaitingCall) (o : Option WaitingCall)
    → reserved_for_all h (vs ++ option_list o) ≡ reserved_for_all h vs + reserved_of h o
reserved-append h vs o =
    sum-map (reserved_for h) (vs ++ option_list o)
    ∙ sum_by-append (reserved_for h) vs (option_list o)
    ∙ both ◌+◌ (sym (sum-map (reserved_for h) vs)) (go o)
  where
    go : (o : Option WaitingCall) → sum_by (reserved_for h) (option_list o) ≡ reserved_of h o
    go None = refl
    go (Some w) = omega arith

-- with one more call
pub reserved_more :
    (h : History) (i : ℕ)
    → sum (map (reserved_for h) (upto (i + 1) (open_calls h)))
    ≡ sum (map (reserved_for h) (upto i (open_calls h))) + reserved_of h (call_at_place i
    (open_calls h))
reserved_more h i =
    ap (reserved_for_all h) (upto_more i 0 (open_calls h) (open-ascends h))
    ∙ reserved-append h (upto i (open_calls h)) (call_at_place i (open_calls h))

-- for no calls
pub reserved_none : (h : History) → sum (map (reserved_for h) (upto 0 (open_calls h))) ≡ 0
reserved_none h =
    ap (reserved_for_all h) (upto-before 0 0 (open_calls h) (open-ascends h) (omega arith))

-- for all calls, after one more entry
pub reserved_end :
    (es : List Entry) (e : Entry) (n : ℕ) → n ≡ length es + 1
    → sum (map (reserved_for (history es ▷ e)) (upto n (open_calls (history es ▷ e))))
    ≡ sum (map (reserved_for (history es ▷ e)) (open_calls (history es ▷ e)))
reserved_end es e n is =
    let h = history es ▷ e in
    ap (reserved_for_all h)
    (upto_all n (open_calls h)
    (Each-weaker (λ w. w.place < place h) (λ w. w.place < n)
    (λ w lt. omega (arith, place_all es)) (open_calls h) (open-below h)))

-- the count with one more number, which passes
pub count_yes :
    (test : ℕ → Bool) (i : ℕ) → test i ≡ true → count_below (i + 1) test ≡ count_below i test + 1
count_yes test i e = ap (λ n. count_below n test) (add-one i) ∙ rw e (omega arith)

-- the count with one more number, which fails
pub count_no :
    (test : ℕ → Bool) (i : ℕ) → test i ≡ false → count_below (i + 1) test ≡ count_below i test
count_no test i e = ap (λ n. count_below n test) (add-one i) ∙ rw e (omega arith)

-- the count of all numbers, after one more entry
pub count_end :
    (es : List Entry) (test : ℕ → Bool) (n : ℕ) → n ≡ length es + 1
    → count_below n test ≡ count_below (suc (place (history es))) test
count_end es test n is =
    let e : n ≡ suc (place (history es)) = omega (arith, place_all es) in
    ap (λ k. count_below k test) e

-- the history of all entries is that of all but the last, with the last added
pub history_last :
    (es : List Entry) (n : ℕ) (e : Entry) → n + 1 ≡ length es → e ≡ get_or es n e
    → history (take n es) ▷ e ≡ history es
history_last es n e len same =
    ap (λ x. history (take n es) ▷ x) same
    ∙ sym (history_more es n e (omega (arith, len)))
    ∙ ap history (take_all (n + 1) es (omega (arith, len)))
