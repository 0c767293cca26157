-- An open call has the priority of its client.
use Rattle.std.proofs.Common.{◌≡◌, ℕ, ◌<◌, ◌⊎◌, inl, inr, Bool, true, false, cond, ◌==◌, Option}
use Rattle.std.proofs.Common.{Some, None, is_some, unwrap_or, refl, ap, ◌∙◌, arith}
use Rattle.std.proofs.lemmas.Bool.Decides.{nat_tests}
use Rattle.pt_types.specs.Tables.{reply}
use Rattle.pt_model.proofs.Induction.{by_steps}
use Rattle.pt_model.specs.declared.entry.Entry.{Entry}
use Rattle.pt_model.specs.declared.entry.Entry.TheVariants.{Join, Death}
use Rattle.pt_model.specs.Searches.{In}
use Rattle.pt_model.specs.declared.waiting_call.WaitingCall.{WaitingCall}
use Rattle.pt_model.specs.Histories.{History, ◌▷◌, place}
use Rattle.pt_model.specs.Clients.{client_priority, is_alive}
use Rattle.pt_model.specs.Answers.{open_calls}
use Rattle.pt_model.specs.Verdicts.{verdict}
use Rattle.pt_model.specs.Steps.{Step, joins, calls, dies, ticks, grants, trips, yields, expires}
use Rattle.pt_model.specs.Steps.{Follows}
use Rattle.pt_model.proofs.Effects.{Effect, Idle, Creates, Removes, Relocks, Frees, Mends, Returns}
use Rattle.pt_model.proofs.Effects.{Wakes, Waits, effect, Allowed}
use Rattle.pt_model.proofs.Allowances.{allowed}
use Rattle.pt_model.proofs.Changes.{left_by}
use Rattle.pt_model.proofs.Sound.{Fresh-follows, below_open}
use Rattle.pt_model.proofs.Found.{open_alive}
use Rattle.pt_model.proofs.Opens.{open-sealed, left, was_open}

-- a call that has just come takes the priority of its client
came : (h : History) (c : ℕ) (E : Effect) → Allowed h c E → is_alive h c ≡ true → (w : WaitingCall)
    → In w (left_by E) → client_priority h w.client ≡ Some w.priority
came h c (Waits v) a t w (inl i) =
    let by : w.client ≡ c = ap (λ (u : WaitingCall). u.client) (i ∙ a.0) in
    let has : w.priority ≡ unwrap_or (client_priority h c) 0 =
    ap (λ (u : WaitingCall). u.priority) (i ∙ a.0) in
    rw (by, has) (there (client_priority h c) t)
  where
    there : (o : Option ℕ) → is_some o ≡ true → o ≡ Some (unwrap_or o 0)
    there None e = absurd cc
    there (Some p) e = refl
came h c (Waits v) a t w (inr i) = absurd i
came h c Idle a t w i = absurd i
came h c (Creates n kind) a t w i = absurd i
came h c (Removes n s q) a t w i = absurd i
came h c (Relocks m) a t w i = absurd i
came h c (Frees m) a t w i = absurd i
came h c (Mends m) a t w i = absurd i
came h c (Returns r) a t w i = absurd i
came h c (Wakes n all) a t w i = absurd i

-- a client that joins is none of those that have open calls
joined : (h : History) (p : ℕ) → Follows h → (w : WaitingCall) → In w (open_calls h)
    → client_priority h w.client ≡ Some w.priority
    → client_priority (h ▷ Join (place h) p) w.client ≡ Some w.priority
joined h p f w i e =
    let lt : w.client < place h = (below_open h w (Fresh-follows h f) i).1 in
    let ne : (place h == w.client) ≡ false = grind (arith, nat_tests) in
    rw ne e

-- a client that dies has no open call any more
died : (h : History) (c : ℕ) (w : WaitingCall) → is_alive (h ▷ Death c) w.client ≡ true
    → client_priority h w.client ≡ Some w.priority → client_priority (h ▷ Death c) w.client
    ≡ Some w.priority
died h c w t e = go (c == w.client) t
  where
    go : (b : Bool) → is_some (cond b None (client_priority h w.client)) ≡ true
        → cond b None (client_priority h w.client) ≡ Some w.priority
    go true k = absurd cc
    go false k = e

one_step : (h : History) (e : Entry) → Follows h → Step h e → (w : WaitingCall)
    → In w (open_calls (h ▷ e)) → (In w (open_calls h) → client_priority h w.client
    ≡ Some w.priority)
    → In w (open_calls h) ⊎ In w (left h e) → client_priority (h ▷ e) w.client ≡ Some w.priority
one_step h _ f (joins p n lt) w now ih (inl i) = joined h p f w i (ih i)
one_step h _ f (dies c n a) w now ih (inl i) = died h c w (open_alive (h ▷ Death c) w now) (ih i)
one_step h _ f (calls c call n a o) w now ih (inl i) = ih i
one_step h _ f (ticks k t n) w now ih (inl i) = ih i
one_step h _ f (grants u s k g) w now ih (inl i) = ih i
one_step h _ f (trips u s k t) w now ih (inl i) = ih i
one_step h _ f (yields m s t) w now ih (inl i) = ih i
one_step h _ f (expires v s j t) w now ih (inl i) = ih i
one_step h _ f (calls c call n a o) w now ih (inr i) =
    came h c (effect h c call (reply (verdict h c call))) (allowed h c call) a w i
one_step h _ f (joins p n lt) w now ih (inr i) = absurd i
one_step h _ f (dies c n a) w now ih (inr i) = absurd i
one_step h _ f (ticks k t n) w now ih (inr i) = absurd i
one_step h _ f (grants u s k g) w now ih (inr i) = absurd i
one_step h _ f (trips u s k t) w now ih (inr i) = absurd i
one_step h _ f (yields m s t) w now ih (inr i) = absurd i
one_step h _ f (expires v s j t) w now ih (inr i) = absurd i

-- an open call has the priority with which its client joined
pub open_priority : (h : History) → Follows h → (w : WaitingCall) → In w (open_calls h)
    → client_priority h w.client ≡ Some w.priority
open_priority h f =
    by_steps (λ h. (w : WaitingCall) → In w (open_calls h) → client_priority h w.client
    ≡ Some w.priority)
    (λ w i. absurd i) (λ h e f ih s w i. one_step h e f s w i (ih w) (was_open h e f s w i))
    (λ h f ih w i. ih w (open-sealed h w i)) h f
