-- Stood: the calls left waiting are in order of their places, and each entry leaves at most one.
use Rattle.std.proofs.Common.{◌≡◌, ℕ, suc, ◌<◌, ◌≤◌, List, [], ◌∷◌, ◌++◌, length, get_or, take}
use Rattle.std.proofs.Common.{drop, Option, Some, None, refl, sym, ap, ◌∙◌, arith, subst}
use Rattle.std.proofs.lemmas.Bool.{eq-eqb}
use Rattle.pt_types.specs.declared.time.Clock.{Clock}
use Rattle.pt_types.specs.Operations.{Operation, Acquires, CondWaits, BarrierWaits, Inits, Ends, Unlocks}
use Rattle.pt_types.specs.Operations.{Restores, Rwunlocks, Signals, Broadcasts, operation, clock_of}
use Rattle.pt_model.specs.declared.entry.Entry.{Entry}
use Rattle.pt_model.specs.declared.entry.Entry.TheVariants.{Join, Call, Death, Moment, Grant, Trip}
use Rattle.pt_model.specs.declared.entry.Entry.TheVariants.{Yield, Expire}
use Rattle.pt_model.specs.Starts.{empty_start}
use Rattle.pt_model.specs.Histories.{History, Begin, ◌▷◌, place, append_entries, history}
use Rattle.pt_model.specs.Searches.{Each, option_list}
use Rattle.pt_model.specs.declared.waiting_call.WaitingCall.{WaitingCall}
use Rattle.pt_model.specs.WaitingCall.{waiting_calls, waiting_calls_by, waiting_calls_by_operation}
use Rattle.pt_model.specs.WaitingCall.{call_at_place}
use Rattle.pt_model.proofs.Rising.{Rising, waiting_calls-below as below, waiting_calls-rising}
use Rattle.pt_model.proofs.Ascending.{Ascends, Ascends-push, Each-weaker, call_at_place-append}
use Rattle.pt_model.proofs.Ascending.{call_at_place-append_right, call_at_place-below, call_at_place-before}
use Rattle.pt_readings.proofs.Prefix.{place_all, place_below, append_entries-append}
use Rattle.std.proofs.lemmas.List.{append-nil}
use Rattle.std.proofs.Math.Seq.{split_at}

-- no call, or one with this place
pub data IsNewest (n : ℕ) : List WaitingCall → Type 0 where
  none : IsNewest n []
  one : (w : WaitingCall) → w.place ≡ n → IsNewest n (w ∷ [])

IsNewest-operation : (h : History) (c : ℕ) (z : Clock) (d : Operation)
    → IsNewest (place h) (waiting_calls_by_operation h c z d)
IsNewest-operation h c z (Acquires n lock_kind how) = one _ refl
IsNewest-operation h c z (CondWaits n m deadline) = one _ refl
IsNewest-operation h c z (BarrierWaits n) = one _ refl
IsNewest-operation h c z (Inits n kind) = none
IsNewest-operation h c z (Ends n class) = none
IsNewest-operation h c z (Unlocks n) = none
IsNewest-operation h c z (Restores n) = none
IsNewest-operation h c z (Rwunlocks n) = none
IsNewest-operation h c z (Signals n) = none
IsNewest-operation h c z (Broadcasts n) = none

-- an entry leaves at most one, with its own place
pub newest : (h : History) (e : Entry) → IsNewest (place h) (waiting_calls_by h e)
newest h (Call c call None) = IsNewest-operation h c (clock_of call) (operation call)
newest h (Call c call (Some x)) = none
newest h (Join c p) = none
newest h (Death c) = none
newest h (Moment z t) = none
newest h (Grant j x) = none
newest h (Trip b) = none
newest h (Yield m) = none
newest h (Expire j) = none

newest-below :
    (n : ℕ) {ws : List WaitingCall} → IsNewest n ws → Each (λ w. w.place < suc n) ws
newest-below n none = tt
newest-below n (one w e) = (omega (arith, e), tt)

pub waiting_calls-below : (h : History) → Each (λ w. w.place < place h) (waiting_calls h)
waiting_calls-below h = below h

ascends-newest :
    (n : ℕ) (vs : List WaitingCall) {ws : List WaitingCall} → Ascends 0 vs
    → Each (λ v. v.place < n) vs → IsNewest n ws → Ascends 0 (vs ++ ws)
ascends-newest n vs a b none = subst (Ascends 0) (sym (append-nil vs)) a
ascends-newest n vs a b (one w e) =
    Ascends-push 0 vs w a (omega arith)
    (subst (λ k. Each (λ v. v.place < k) vs) (sym e) b)

newest-option_list :
    (n : ℕ) {ws : List WaitingCall} → IsNewest n ws → option_list (call_at_place n ws) ≡ ws
newest-option_list n none = refl
newest-option_list n (one w e) = rw (eq-eqb w.place n e) refl

pub newest-other :
    (n j : ℕ) {ws : List WaitingCall} → IsNewest n ws → j < n → call_at_place j ws ≡ None
newest-other n j none lt = refl
newest-other n j (one w e) lt = call_at_place-before j n (w ∷ []) (omega (arith, e), tt) lt

-- later entries leave the calls of earlier ones unchanged
pub call_at_place-append_entries :
    (h : History) (es : List Entry) (j : ℕ) → j < place h
    → call_at_place j (waiting_calls (append_entries h es)) ≡ call_at_place j (waiting_calls h)
call_at_place-append_entries h [] j lt = refl
call_at_place-append_entries h (e ∷ es) j lt =
    call_at_place-append_entries (h ▷ e) es j (omega arith)
    ∙ call_at_place-append_right j (waiting_calls h) (waiting_calls_by h e)
    (newest-other (place h) j (newest h e) lt)

unlisted : (o p : Option WaitingCall) → option_list o ≡ option_list p → o ≡ p
unlisted None None e = refl
unlisted None (Some q) e = absurd cc
unlisted (Some o) None e = absurd cc
unlisted (Some o) (Some q) e = cc

-- the call of the entry after h
pub call_at_place-here :
    (h : History) (e : Entry) (es : List Entry) (o : Option WaitingCall) → option_list o
    ≡ waiting_calls_by h e
    → o ≡ call_at_place (place h) (waiting_calls (append_entries (h ▷ e) es))
call_at_place-here h e es o is =
    unlisted o _
    (is ∙ sym (newest-option_list (place h) (newest h e))
    ∙ ap option_list (sym (call_at_place-append_entries (h ▷ e) es (place h) (omega arith)
    ∙ call_at_place-append (place h) (waiting_calls h) (waiting_calls_by h e)
    (call_at_place-below (place h) (waiting_calls h) (waiting_calls-below h)))))

-- the call of the entry at a place
pub waiting_here :
    (es : List Entry) (i : ℕ) (e : Entry) (o : Option WaitingCall) → i < length es
    → e ≡ get_or es i e → option_list o ≡ waiting_calls_by (history (take i es)) e
    → o ≡ call_at_place i (waiting_calls (history es))
waiting_here es i e o lt same is =
    let h = history (take i es) in
    let rest = drop (suc i) es in
    let at : place h ≡ i = place_below es i (omega arith) in
    let whole : history es ≡ append_entries (h ▷ e) rest =
    ap history (split_at es i e lt)
    ∙ append_entries-append (Begin empty_start) (take i es) (get_or es i e ∷ rest)
    ∙ ap (λ x. append_entries (h ▷ x) rest) (sym same)
    in
    call_at_place-here h e rest o is
    ∙ ap (λ k. call_at_place k (waiting_calls (append_entries (h ▷ e) rest))) at
    ∙ ap (λ g. call_at_place i (waiting_calls g)) (sym whole)

-- there is none after the last
pub waiting_past :
    (es : List Entry) (j : ℕ) → length es ≤ j → call_at_place j (waiting_calls (history es)) ≡ None
waiting_past es j le =
    call_at_place-below j (waiting_calls (history es))
    (Each-weaker (λ w. w.place < place (history es)) (λ w. w.place < j)
    (λ w lt. omega (arith, place_all es)) (waiting_calls (history es)) (waiting_calls-below
    (history es)))
