-- WaitMoves: no open call but a wait is moved.
use Rattle.std.proofs.Common.{◌≡◌, ℕ, ◌==◌, Bool, true, false, cond, ◌⊎◌, inl, inr, Option, Some}
use Rattle.std.proofs.Common.{None, refl, sym, ap, ◌∙◌, arith}
use Rattle.std.proofs.lemmas.Bool.Decides.{nat_tests}
use Rattle.std.proofs.lemmas.Bool.{and_parts, false≢true}
use Rattle.pt_types.specs.declared.call.Call.{Call as FunctionCall}
use Rattle.pt_types.specs.declared.outcome.Outcome.{Outcome}
use Rattle.pt_types.specs.Tables.{reply}
use Rattle.pt_model.specs.declared.entry.Entry.{Entry}
use Rattle.pt_model.specs.declared.entry.Entry.TheVariants.{Call}
use Rattle.pt_model.specs.declared.entry.Cause.TheVariants.{Signalled, Broadcasted}
use Rattle.pt_model.specs.Searches.{In, least, option_list}
use Rattle.pt_model.specs.Histories.{History, ◌▷◌, place}
use Rattle.pt_model.specs.declared.waiting_call.WaitingCall.{WaitingCall}
use Rattle.pt_model.specs.WaitingCall.{is_cond_wait}
use Rattle.pt_model.specs.Answers.{open_calls}
use Rattle.pt_model.specs.Moves.{cause_by_expiry, cond_waits, move_or, wait_move, precedes_by}
use Rattle.pt_model.specs.Moves.{is_at_cond}
use Rattle.pt_model.specs.Moves.{cause_if_among}
use Rattle.pt_model.specs.Verdicts.{verdict}
use Rattle.pt_model.specs.Steps.{Step, joins, calls, dies, ticks, grants, trips, yields, expires}
use Rattle.pt_model.specs.Steps.{Follows}
use Rattle.pt_model.proofs.Allowances.{allowed}
use Rattle.pt_model.proofs.Changes.{cause_effect, left_by}
use Rattle.pt_model.proofs.Effects.{Effect, Idle, Creates, Removes, Relocks, Frees, Mends, Returns}
use Rattle.pt_model.proofs.Effects.{Wakes, Waits, effect, Allowed}
use Rattle.pt_model.proofs.Found.{one_open}
use Rattle.pt_model.proofs.Induction.{by_steps}
use Rattle.pt_model.proofs.Leasts.{least-in}
use Rattle.pt_model.proofs.Lists.{In-filter}
use Rattle.pt_model.proofs.Moves.{wait_move-call, wait_move-expire, woken-broadcast}
use Rattle.pt_model.proofs.Opens.{open-sealed, left, was_open}
use Rattle.pt_model.proofs.Seats.{move-sealed}
use Rattle.pt_model.proofs.Sound.{Fresh-follows}

-- a call that is not a wait is not moved
abbrev pub PlainStays : History → WaitingCall → Type 0
PlainStays h w = In w (open_calls h) → is_cond_wait w.role ≡ false → wait_move h w.place ≡ None

module _ (h : History) (f : Follows h) (w : WaitingCall) (plain : is_cond_wait w.role ≡ false) where
  -- no effect of a call moves it
  no_cause : In w (open_calls h) → (E : Effect) → cause_effect h (wait_move h) E w.place ≡ None
  no_cause i (Wakes n true) =
      let none : is_at_cond h (wait_move h) n w ≡ false = rw plain refl in
      ap (λ b. cond b (Some Broadcasted) None) (woken-broadcast h n f w i ∙ none)
  no_cause i (Wakes n false) = go (least (precedes_by (wait_move h)) (cond_waits h
      (wait_move h) n)) refl
    where
      apart : (u : WaitingCall) → In u (cond_waits h (wait_move h) n) → (u.place == w.place) ≡ false
      apart u j = pick (u.place == w.place) refl
        where
          p : In u (open_calls h) × (is_at_cond h (wait_move h) n u ≡ true)
          p = In-filter (is_at_cond h (wait_move h) n) (open_calls h) u j

          pick : (b : Bool) → (u.place == w.place) ≡ b → b ≡ false
          pick false e = refl
          pick true e =
              let at : u.place ≡ w.place = grind (arith, nat_tests) in
              let same : u ≡ w = one_open h f u w p.0 i at in
              absurd (false≢true (sym plain
              ∙ (ap (λ (v : WaitingCall). is_cond_wait v.role) (sym same)
              ∙ (and_parts (is_cond_wait u.role) _ p.1).0)))

      go : (o : Option WaitingCall)
          → least (precedes_by (wait_move h)) (cond_waits h (wait_move h) n) ≡ o
          → cause_if_among (option_list o) Signalled w.place ≡ None
      go None e = refl
      go (Some u) e =
          rw (apart u (least-in (precedes_by (wait_move h)) (cond_waits h
          (wait_move h) n) u e)) refl
  no_cause i Idle = refl
  no_cause i (Creates n kind) = refl
  no_cause i (Removes n s q) = refl
  no_cause i (Relocks m) = refl
  no_cause i (Frees m) = refl
  no_cause i (Mends m) = refl
  no_cause i (Returns r) = refl
  no_cause i (Waits u) = refl

-- a call that has just come isn't moved
new_unmoved : (h : History) (c : ℕ) (call : FunctionCall) (r : Option Outcome) (E : Effect)
    → effect h c call r ≡ E → Follows h → Allowed h c E → (w : WaitingCall) → In w (left_by E)
    → wait_move (h ▷ Call c call r) w.place ≡ None
new_unmoved h c call r (Waits u) e f a w (inl i) =
    let at : w.place ≡ place h = ap (λ (v : WaitingCall). v.place) (i ∙ a.0) in
    let old : wait_move h w.place ≡ None = (Fresh-follows h f).moves w.place (omega (arith, at)) in
    wait_move-call h c call r w.place ∙ (ap (λ E. move_or (place h)
    (cause_effect h (wait_move h) E w.place) (wait_move h w.place)) e ∙ old)
new_unmoved h c call r (Waits u) e f a w (inr i) = absurd i
new_unmoved h c call r Idle e f a w i = absurd i
new_unmoved h c call r (Creates n kind) e f a w i = absurd i
new_unmoved h c call r (Removes n s q) e f a w i = absurd i
new_unmoved h c call r (Relocks m) e f a w i = absurd i
new_unmoved h c call r (Frees m) e f a w i = absurd i
new_unmoved h c call r (Mends m) e f a w i = absurd i
new_unmoved h c call r (Returns m) e f a w i = absurd i
new_unmoved h c call r (Wakes n all) e f a w i = absurd i

plain_step : (h : History) (e : Entry) → Follows h → Step h e → (w : WaitingCall) → PlainStays h w
    → In w (open_calls h) ⊎ In w (left h e) → is_cond_wait w.role ≡ false
    → wait_move (h ▷ e) w.place ≡ None
plain_step h _ f (calls c call n a o) w ih (inl i) p =
    wait_move-call h c call (reply (verdict h c call)) w.place
    ∙ (ap (λ x. move_or (place h) x (wait_move h w.place))
    (no_cause h f w p i (effect h c call (reply (verdict h c call)))) ∙ ih i p)
plain_step h _ f (calls c call n a o) w ih (inr i) p =
    new_unmoved h c call (reply (verdict h c call)) (effect h c call (reply (verdict h c call)))
    refl f (allowed h c call) w i
plain_step h _ f (expires v s j t) w ih (inl i) p =
    wait_move-expire h v f j w.place ∙ go (v.place == w.place) (is_cond_wait v.role) refl refl
  where
    go : (b waits : Bool) → (v.place == w.place) ≡ b → is_cond_wait v.role ≡ waits
        → move_or (place h) (cause_by_expiry b waits) (wait_move h w.place) ≡ None
    go false waits eb ew = ih i p
    go true false eb ew = ih i p
    go true true eb ew =
        let at : v.place ≡ w.place = grind (arith, nat_tests) in
        let same : v ≡ w = one_open h f v w j i at in
        absurd (false≢true (sym p ∙ (ap (λ (u : WaitingCall). is_cond_wait u.role) (sym same)
        ∙ ew)))
plain_step h _ f (joins p n lt) w ih (inl i) q = ih i q
plain_step h _ f (dies c n a) w ih (inl i) q = ih i q
plain_step h _ f (ticks z t n) w ih (inl i) q = ih i q
plain_step h _ f (grants u s k g) w ih (inl i) q = ih i q
plain_step h _ f (trips u s k t) w ih (inl i) q = ih i q
plain_step h _ f (yields m s t) w ih (inl i) q = ih i q
plain_step h _ f (joins p n lt) w ih (inr i) q = absurd i
plain_step h _ f (dies c n a) w ih (inr i) q = absurd i
plain_step h _ f (ticks z t n) w ih (inr i) q = absurd i
plain_step h _ f (grants u s k g) w ih (inr i) q = absurd i
plain_step h _ f (trips u s k t) w ih (inr i) q = absurd i
plain_step h _ f (yields m s t) w ih (inr i) q = absurd i
plain_step h _ f (expires v s j t) w ih (inr i) q = absurd i

pub plain-stays : (h : History) → Follows h → (w : WaitingCall) → PlainStays h w
plain-stays h f =
    by_steps (λ h. (w : WaitingCall) → PlainStays h w) (λ w i. absurd i)
    (λ h e f ih s w i. plain_step h e f s w (ih w) (was_open h e f s w i))
    (λ h f ih w i p. let old = open-sealed h w i in move-sealed h w old ∙ ih w old p) h f
