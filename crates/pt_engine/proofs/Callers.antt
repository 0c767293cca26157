-- Who made the call of each answer.
use Rattle.std.proofs.Common.{◌≡◌, ℕ, ◌<◌, ◌==◌, ◌⊎◌, inl, inr, Bool, true, false, cond, List, []}
use Rattle.std.proofs.Common.{◌∷◌, Option, Some, None, refl, sym, ap, ◌∙◌, subst, arith}
use Rattle.std.proofs.lemmas.Bool.Decides.{nat_tests}
use Rattle.pt_types.specs.declared.call.Call.{Call as FunctionCall}
use Rattle.pt_types.specs.declared.outcome.Outcome.{Outcome}
use Rattle.pt_types.specs.Tables.{reply}
use Rattle.pt_model.specs.declared.entry.Entry.{Entry}
use Rattle.pt_model.specs.declared.entry.Entry.TheVariants.{Call}
use Rattle.pt_model.specs.Searches.{In, Each}
use Rattle.pt_model.specs.Histories.{History, Begin, ◌▷◌, append_entries, place}
use Rattle.pt_model.specs.Records.{ReplyView}
use Rattle.pt_model.specs.declared.waiting_call.WaitingCall.{WaitingCall}
use Rattle.pt_model.specs.WaitingCall.{call_at_place, waiting_calls, waiting_calls_by}
use Rattle.pt_model.specs.Answers.{entry_replies, open_calls, replies_from}
use Rattle.pt_model.specs.Queries.{caller, client_of_found}
use Rattle.pt_model.specs.Verdicts.{verdict}
use Rattle.pt_model.specs.Steps.{Step, calls, Follows}
use Rattle.pt_model.specs.Seals.{seal}
use Rattle.pt_model.proofs.Allowances.{allowed}
use Rattle.pt_model.proofs.Changes.{left_by}
use Rattle.pt_model.proofs.Effects.{Effect, Idle, Creates, Removes, Relocks, Frees, Mends, Returns}
use Rattle.pt_model.proofs.Effects.{Wakes, Waits, effect, Allowed}
use Rattle.pt_model.proofs.Found.{found, newest_call, stood_open}
use Rattle.pt_model.proofs.Histories.{follows-part}
use Rattle.pt_model.proofs.Induction.{by_steps, start-seal}
use Rattle.pt_model.proofs.Lists.{Each-in, Each-append, Each-weaker, In-append_cases}
use Rattle.pt_model.proofs.Readings.{stood-call}
use Rattle.pt_model.proofs.Ascending.{call_at_place-place}
use Rattle.pt_model.proofs.Rising.{waiting_calls-seal}
use Rattle.pt_model.proofs.Sound.{Below, Fresh-follows}
use Rattle.pt_engine.proofs.Answered.{IsForAnswered, told_each}

-- the client of the call at a place below the next one
abbrev pub IsCalled : History → ℕ → ℕ → Type 0
IsCalled h j c = (caller h j ≡ Some c) × (j < place h)

-- one more entry leaves the callers of earlier calls unchanged
pub called_on : (h : History) (e : Entry) (j c : ℕ) → IsCalled h j c → IsCalled (h ▷ e) j c
called_on h (Call d call r) j c is =
    let below = is.1 in
    let other : (place h == j) ≡ false = grind (arith, nat_tests) in
    (ap (λ b. cond b (Some d) (caller h j)) other ∙ is.0, omega (arith, below))
called_on h _ j c is = (is.0, let below = is.1 in omega (arith, below))

pub called_onto : (h : History) (es : List Entry) (j c : ℕ) → IsCalled h j c
    → IsCalled (append_entries h es) j c
called_onto h [] j c is = is
called_onto h (e ∷ es) j c is = called_onto (h ▷ e) es j c (called_on h e j c is)

-- the caller of a new call is its client
pub called_here : (h : History) (c : ℕ) (call : FunctionCall) (r : Option Outcome)
    → IsCalled (h ▷ Call c call r) (place h) c
called_here h c call r =
    let same : (place h == place h) ≡ true = grind (arith, nat_tests) in
    (ap (λ b. cond b (Some c) (caller h (place h))) same, omega arith)

-- a call that an effect leaves waiting is the client's own
pub stands_own : (h : History) (c : ℕ) (E : Effect) → Allowed h c E → (w : WaitingCall)
    → In w (left_by E)
    → w.client ≡ c
stands_own h c (Waits v) a w (inl e) = ap (λ (u : WaitingCall). u.client) (e ∙ a.0)
stands_own h c (Waits v) a w (inr i) = absurd i
stands_own h c Idle a w i = absurd i
stands_own h c (Creates n kind) a w i = absurd i
stands_own h c (Removes n class o) a w i = absurd i
stands_own h c (Relocks m) a w i = absurd i
stands_own h c (Frees m) a w i = absurd i
stands_own h c (Mends m) a w i = absurd i
stands_own h c (Returns r) a w i = absurd i
stands_own h c (Wakes n all) a w i = absurd i

-- the caller of each call that waited is its client
abbrev AreCalled : History → Type 0
AreCalled h = (w : WaitingCall) → In w (waiting_calls h) → IsCalled h w.place w.client

new_called : (h : History) (c : ℕ) (call : FunctionCall) (w : WaitingCall)
    → In w (waiting_calls_by h (Call c call (reply (verdict h c call))))
    → IsCalled (h ▷ Call c call (reply (verdict h c call))) w.place w.client
new_called h c call w i =
    let r = reply (verdict h c call) in
    let there = subst (λ ws. In w ws) (stood-call h c call r) i in
    let all = allowed h c call in
    let here = (newest_call h c (effect h c call r) all w there).0 in
    let own = stands_own h c (effect h c call r) all w there in
    subst (λ j. IsCalled (h ▷ Call c call r) j w.client) (sym here)
    (subst (λ d. IsCalled (h ▷ Call c call r) (place h) d) (sym own)
    (called_here h c call r))

step_called : (h : History) (e : Entry) → AreCalled h → Step h e → AreCalled (h ▷ e)
step_called h e ih s w i = go s (In-append_cases w (waiting_calls h) (waiting_calls_by h e) i)
  where
    go : Step h e → In w (waiting_calls h) ⊎ In w (waiting_calls_by h e)
        → IsCalled (h ▷ e) w.place w.client
    go s (inl old) = called_on h e w.place w.client (ih w old)
    go s (inr new) = fresh e s new
      where
        fresh : (e : Entry) → Step h e → In w (waiting_calls_by h e)
            → IsCalled (h ▷ e) w.place w.client
        fresh _ (calls c call n a o) new = new_called h c call w new
        fresh _ s new = absurd new

sealed_called : (h : History) → Follows h → AreCalled (Begin (seal h))
sealed_called h f w i =
    let g = start-seal h f in (
      ap client_of_found (found (Begin (seal h)) g w i),
      (Each-in (Below (place (Begin (seal h)))) (waiting_calls (Begin (seal h))) w
          (Fresh-follows (Begin (seal h)) g).stood i).0,
    )

-- the same for each call that waited, after any legal history
pub stood_called : (h : History) → Follows h → AreCalled h
stood_called h f =
    by_steps AreCalled (λ w i. absurd i) (λ h e f ih s. step_called h e ih s)
    (λ h f ih. sealed_called h f) h f

-- a call that is found in a list occurs in it
found_in : (j : ℕ) (ws : List WaitingCall) (w : WaitingCall) → call_at_place j ws ≡ Some w → In w ws
found_in j [] w e = absurd cc
found_in j (v ∷ vs) w e = go (v.place == j) e (found_in j vs w)
  where
    go : (b : Bool) → cond b (Some v) (call_at_place j vs) ≡ Some w
        → (call_at_place j vs ≡ Some w → In w vs) → In w (v ∷ vs)
    go true e later = let same : w ≡ v = cc in inl same
    go false e later = inr (later e)

-- the caller of a call in a seal was its caller before
pub caller_sealed : (h : History) → Follows h → (j c : ℕ) → caller (Begin (seal h)) j ≡ Some c
    → caller h j ≡ Some c
caller_sealed h f j c e = go (call_at_place j (waiting_calls (Begin (seal h)))) refl e
  where
    go : (o : Option WaitingCall) → call_at_place j (waiting_calls (Begin (seal h))) ≡ o
        → client_of_found o ≡ Some c → caller h j ≡ Some c
    go None at e = absurd cc
    go (Some w) at e =
        let i : In w (open_calls h) =
        subst (In w) (waiting_calls-seal h) (found_in j (waiting_calls (Begin (seal h))) w at) in
        let there : w.place ≡ j = call_at_place-place j (waiting_calls (Begin (seal h))) w at in
        let same : w.client ≡ c = cc in
        subst (λ k. caller h k ≡ Some c) there
        ((stood_called h f w (stood_open h w i)).0 ∙ ap Some same)

-- an answer goes to its call's caller
abbrev pub IsOwn : History → ReplyView → Type 0
IsOwn h t = IsCalled h t.place t.client

called_answered : (h : History) (e : Entry) → Follows h → IsForAnswered (IsCalled (h ▷ e)) h e
called_answered h (Call c call r) f = called_here h c call r
called_answered h e f = λ w i.
    called_on h e w.place w.client (stood_called h f w (stood_open h w i))

-- so does each answer that an entry gives
told_own : (h : History) (e : Entry) → Follows h → Step h e
    → Each (IsOwn (h ▷ e)) (entry_replies h e)
told_own h e f s = told_each (IsCalled (h ▷ e)) h e f s (called_answered h e f)

-- so does each answer that these entries give
pub replies_own : (h : History) (es : List Entry) → Follows (append_entries h es)
    → Each (IsOwn (append_entries h es)) (replies_from h es)
replies_own h [] f = tt
replies_own h (e ∷ es) f =
    let before = follows-part (h ▷ e) es f in
    Each-append (IsOwn (append_entries (h ▷ e) es)) (entry_replies h e) (replies_from (h ▷ e) es)
    (Each-weaker (IsOwn (h ▷ e)) (IsOwn (append_entries (h ▷ e) es))
    (λ t is. called_onto (h ▷ e) es t.place t.client is) (entry_replies h e)
    (told_own h e before.0 before.1))
    (replies_own (h ▷ e) es f)
