-- What is reserved for open calls, after a call.
use Rattle.std.proofs.Common.{◌≡◌, ℕ, suc, ◌+◌, ◌*◌, ◌==◌, Bool, true, false, cond, inl, inr, List}
use Rattle.std.proofs.Common.{[], ◌∷◌, ◌++◌, length, Option, Some, None, is_some, is_none, refl, ap}
use Rattle.std.proofs.Common.{arith}
use Rattle.std.proofs.lemmas.Bool.Decides.{nat_tests}
use Rattle.std.proofs.lemmas.Bool.{and_parts}
use Rattle.pt_model.specs.declared.entry.Cause.{Cause}
use Rattle.pt_model.specs.declared.entry.Cause.TheVariants.{Signalled, Broadcasted}
use Rattle.pt_model.specs.Searches.{In, least, option_list}
use Rattle.pt_model.specs.Histories.{History, place}
use Rattle.pt_model.specs.declared.waiting_call.WaitingCall.{WaitingCall}
use Rattle.pt_model.specs.declared.waiting_call.Move.{Move}
use Rattle.pt_model.specs.WaitingCall.{is_cond_wait}
use Rattle.pt_model.specs.Answers.{open_calls}
use Rattle.pt_model.specs.Moves.{precedes_by, is_at_cond, cond_waits, least_cond_wait}
use Rattle.pt_model.specs.Moves.{cause_if_among, move_or}
use Rattle.pt_model.specs.Moves.{wait_move}
use Rattle.pt_model.specs.Room.{reserved_for}
use Rattle.pt_model.specs.Steps.{Follows}
use Rattle.pt_model.proofs.Lists.{In-filter}
use Rattle.pt_model.proofs.Leasts.{least-in}
use Rattle.pt_model.proofs.Counting.{total}
use Rattle.pt_model.proofs.Effects.{Effect, Idle, Creates, Removes, Relocks, Frees, Mends, Returns}
use Rattle.pt_model.proofs.Effects.{Wakes, Waits, Allowed}
use Rattle.pt_model.proofs.Changes.{left_by, cause_effect}
use Rattle.pt_model.proofs.Sound.{Fresh-follows}
use Rattle.pt_model.proofs.Room.{reserved_in}
use Rattle.pt_model.proofs.Moves.{has_place-part}
use Rattle.pt_model.proofs.Disjoint.{open_apart, total-one, total-passed}

pub totals : (f g : WaitingCall → ℕ) (ws : List WaitingCall)
    → ((w : WaitingCall) → In w ws → g w ≡ f w)
    → total g ws ≡ total f ws
totals f g [] s = refl
totals f g (w ∷ ws) s = omega (arith, s w (inl refl), totals f g ws (λ v j. s v (inr j)))

pub total-append : (f : WaitingCall → ℕ) (xs ys : List WaitingCall) → total f (xs ++ ys)
    ≡ total f xs + total f ys
total-append f [] ys = omega arith
total-append f (x ∷ xs) ys = omega (arith, total-append f xs ys)

-- the calls that an effect wakes
abbrev pub woken_by : History → Effect → List WaitingCall
woken_by h (Wakes n true) = cond_waits h (wait_move h) n
woken_by h (Wakes n false) = least_cond_wait h (wait_move h) n
woken_by h _ = []

-- what is reserved for a call whose move comes by this cause
abbrev pub reserved_by : ℕ → Option Cause → Option Move → ℕ
reserved_by at cause before = cond {A = ℕ} (is_some (move_or at cause before)) 2 3

reserved_moved : (at : ℕ) (x : Cause) (before : Option Move) → is_none before ≡ true
    → reserved_by at (Some x) before + 1 ≡ cond {A = ℕ} (is_some before) 2 3
reserved_moved at x None e = omega arith
reserved_moved at x (Some v) e = absurd cc

module _ (h : History) (f : Follows h) where
  waits_unmoved : (n : List ℕ) (w : WaitingCall) → is_at_cond h (wait_move h) n w ≡ true
      → is_none (wait_move h w.place) ≡ true
  waits_unmoved n w t =
      (and_parts (is_none (wait_move h w.place)) _ (and_parts (is_cond_wait w.role) _ t).1).0

  all_woken : (n : List ℕ) (w : WaitingCall) → In w (open_calls h)
      → reserved_by (place h) (cause_if_among (cond_waits h (wait_move h) n) Broadcasted w.place)
      (wait_move h w.place) + cond (is_at_cond h (wait_move h) n w) 1 0
      ≡ reserved_for h w
  all_woken n w i =
      rw (has_place-part h (is_at_cond h (wait_move h) n) f w i) (go (is_at_cond h
      (wait_move h) n w) refl)
    where
      go : (b : Bool) → is_at_cond h (wait_move h) n w ≡ b
          → reserved_by (place h) (cond b (Some Broadcasted) None)
          (wait_move h w.place) + cond b 1 0
          ≡ reserved_for h w
      go true e = reserved_moved (place h) Broadcasted (wait_move h w.place) (waits_unmoved n w e)
      go false e = omega arith

  one_woken : (n : List ℕ) (o : Option WaitingCall)
      → least (precedes_by (wait_move h)) (cond_waits h (wait_move h) n) ≡ o
      → total (λ w. reserved_by (place h) (cause_if_among (option_list o) Signalled w.place)
      (wait_move h w.place))
      (open_calls h) + length (option_list o) ≡ reserved_in h
  one_woken n None e = omega arith
  one_woken n (Some u) e =
      let there =
      In-filter (is_at_cond h (wait_move h) n) (open_calls h) u
      (least-in (precedes_by (wait_move h)) (cond_waits h (wait_move h) n) u e) in
      let here : (u.place == u.place) ≡ true = grind (arith, nat_tests) in
      let less : suc (reserved_by (place h) (cause_if_among (u
      ∷ []) Signalled u.place) (wait_move h u.place))
      ≡ reserved_for h u = rw here (let k = reserved_moved (place h) Signalled (wait_move h u.place)
      (waits_unmoved n u there.1) in omega (arith, k)) in
      let one =
      total-one (reserved_for h) (λ w. reserved_by (place h) (cause_if_among (u
      ∷ []) Signalled w.place)
      (wait_move h w.place)) (open_calls h) u there.0 (open_apart h f) less
      (λ w i ne. rw ne refl) in
      omega (arith, one)

  -- a call that is woken has used one of its three entries
  pub reserved_old : (E : Effect)
      → total (λ w. reserved_by (place h) (cause_effect h (wait_move h) E w.place)
      (wait_move h w.place)) (open_calls h) + length (woken_by h E)
      ≡ reserved_in h
  reserved_old (Wakes n true) =
      total-passed (reserved_for h) (λ w. reserved_by (place h)
      (cause_if_among (cond_waits h (wait_move h) n) Broadcasted w.place) (wait_move h w.place))
      (is_at_cond h (wait_move h) n) (open_calls h) (all_woken n)
  reserved_old (Wakes n false) =
      one_woken n (least (precedes_by (wait_move h)) (cond_waits h (wait_move h) n)) refl
  reserved_old Idle = omega arith
  reserved_old (Creates n kind) = omega arith
  reserved_old (Removes n s q) = omega arith
  reserved_old (Relocks m) = omega arith
  reserved_old (Frees m) = omega arith
  reserved_old (Mends m) = omega arith
  reserved_old (Returns r) = omega arith
  reserved_old (Waits w) = omega arith

  -- a call that has just come has three
  pub reserved_new : (c : ℕ) (E : Effect) → Allowed h c E
      → total (λ w. reserved_by (place h) (cause_effect h (wait_move h) E w.place)
      (wait_move h w.place))
      (left_by E) ≡ 3 * length (left_by E)
  reserved_new c (Waits w) a =
      let at : w.place ≡ place h = ap (λ (v : WaitingCall). v.place) a.0 in
      let none : wait_move h w.place ≡ None = (Fresh-follows h f).moves w.place (omega
      (arith, at)) in
      rw none (omega arith)
  reserved_new c Idle a = omega arith
  reserved_new c (Creates n kind) a = omega arith
  reserved_new c (Removes n s q) a = omega arith
  reserved_new c (Relocks m) a = omega arith
  reserved_new c (Frees m) a = omega arith
  reserved_new c (Mends m) a = omega arith
  reserved_new c (Returns r) a = omega arith
  reserved_new c (Wakes n all) a = omega arith
