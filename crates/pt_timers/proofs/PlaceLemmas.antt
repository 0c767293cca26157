-- The deadline that is set at a place, as the orders of the clocks have it.
use Rattle.std.proofs.Common.{◌≡◌, ℕ, ◌==◌, ◌||◌, ◌++◌, ◌⊎◌, Bool, true, false, cond}
use Rattle.std.proofs.Common.{List, [], ◌∷◌, Option, Some, None, unwrap_or, refl, ap, ◌∙◌}
use Rattle.std.proofs.Common.{inl, inr, ⊎_elim, arith, subst, append-nil}
use Rattle.std.proofs.lemmas.Bool.{false≢true}
use Rattle.std.proofs.lemmas.Bool.Decides.{nat_tests}
use Rattle.std.specs.List.{list_any}
use Rattle.std.specs.BTreeMap.{is_at}
use Rattle.pt_types.specs.declared.time.Clock.{Clock}
use Rattle.pt_types.specs.declared.time.Clock.TheVariants.{Real, Mono}
use Rattle.pt_timers.specs.declared.key.TimerKey.{TimerKey}
use Rattle.pt_timers.specs.declared.orders.Orders.{Orders}
use Rattle.pt_timers.specs.Deadlines.{deadline_at, key_cmp, timer_key}
use Rattle.pt_timers.specs.Orders.{by_places, is_due_at, timer_list}

-- whether these keys have one that is equal to this
abbrev has : List TimerKey → TimerKey → Bool
has ks q = list_any (is_at (key_cmp q)) ks

pub same-number : (x y : ℕ) → (x == y) ≡ true → x ≡ y
same-number x y e = grind (arith, nat_tests)

pub same-parts : (k l : Clock) (n m : ℕ)
    → ◌≡◌ {A = Option (Clock × ℕ)} (Some (k, n)) (Some (l, m)) → (k ≡ l) × (n ≡ m)
same-parts k l n m e = (
  ap (λ (o : Option (Clock × ℕ)). (unwrap_or o (k, n)).0) e,
  ap (λ (o : Option (Clock × ℕ)). (unwrap_or o (k, n)).1) e,
)

own-key : (n p : ℕ) (q : TimerKey) → q.nanos ≡ n → q.place ≡ p
    → is_at (key_cmp (timer_key n p)) q ≡ true
own-key n p q e f = grind (arith, nat_tests, e, f)

at-key : (a q : TimerKey) → is_at (key_cmp a) q ≡ true → (q.nanos ≡ a.nanos) × (q.place ≡ a.place)
at-key a q e = (grind (arith, nat_tests), grind (arith, nat_tests))

module _ (k : Clock) (rest : List (ℕ × (Clock × ℕ))) (p : ℕ) where
  -- a deadline that is set at a place is that of a key of this clock, or is set after those
  pub set-in : (qs : List TimerKey) (l : Clock) (n : ℕ)
      → deadline_at (by_places k qs ++ rest) p ≡ Some (l, n)
      → ((k ≡ l) × (has qs (timer_key n p) ≡ true)) ⊎ (deadline_at rest p ≡ Some (l, n))
  set-in [] l n e = inr e
  set-in (q ∷ qs) l n e = go (set-in qs l n) (q.place == p) refl e
    where
      go : (deadline_at (by_places k qs ++ rest) p ≡ Some (l, n)
          → ((k ≡ l) × (has qs (timer_key n p) ≡ true)) ⊎ (deadline_at rest p ≡ Some (l, n)))
          → (b : Bool) → (q.place == p) ≡ b
          → cond b (Some (k, q.nanos)) (deadline_at (by_places k qs ++ rest) p) ≡ Some (l, n)
          → ((k ≡ l) × (has (q ∷ qs) (timer_key n p) ≡ true)) ⊎ (deadline_at rest p ≡ Some (l, n))
      go after true t f =
          let parts = same-parts k l q.nanos n f in
          inl (
            parts.0,
            ap (λ b. b || has qs (timer_key n p))
                (own-key n p q parts.1 (same-number q.place p t)),
          )
      go after false t f =
          ⊎_elim (λ one. inl (one.0, later (is_at (key_cmp (timer_key n p)) q) one.1)) (λ o. inr o)
          (after f)
        where
          later : (b : Bool) → has qs (timer_key n p) ≡ true → (b || has qs (timer_key n p)) ≡ true
          later true h = refl
          later false h = h

  -- if nothing is set at a place, no key of this clock has it, and nothing is set after those
  pub none-set : (qs : List TimerKey) → deadline_at (by_places k qs ++ rest) p ≡ None
      → ((a : TimerKey) → a.place ≡ p → has qs a ≡ true → ⊥) × (deadline_at rest p ≡ None)
  none-set [] e = (λ a at h. false≢true h, e)
  none-set (q ∷ qs) e = go (none-set qs) (q.place == p) refl e
    where
      go : (deadline_at (by_places k qs ++ rest) p ≡ None
          → ((a : TimerKey) → a.place ≡ p → has qs a ≡ true → ⊥) × (deadline_at rest p ≡ None))
          → (b : Bool) → (q.place == p) ≡ b
          → cond b (Some (k, q.nanos)) (deadline_at (by_places k qs ++ rest) p) ≡ None
          → ((a : TimerKey) → a.place ≡ p → has (q ∷ qs) a ≡ true → ⊥)
          × (deadline_at rest p ≡ None)
      go after true t f = absurd cc
      go after false t f =
          (λ a at h. none a at (is_at (key_cmp a) q) refl h, (after f).1)
        where
          none : (a : TimerKey) → a.place ≡ p → (b : Bool) → is_at (key_cmp a) q ≡ b
              → (b || has qs a) ≡ true → ⊥
          none a at true i h =
              let here = (at-key a q i).1 ∙ at in
              absurd (grind (arith, nat_tests))
          none a at false i h = (after f).0 a at h

module _ {A : Type 0} (o : Orders A) where
  -- a deadline that is set at a place is due
  pub is-due : (p : ℕ) (k : Clock) (n : ℕ) → deadline_at (timer_list o) p ≡ Some (k, n)
      → is_due_at o k (timer_key n p) ≡ true
  is-due p k n e =
      ⊎_elim (λ one. subst (λ c. is_due_at o c (timer_key n p) ≡ true) one.0 one.1) other
      (set-in Real (by_places Mono o.mono) p o.real k n e)
    where
      other : deadline_at (by_places Mono o.mono) p ≡ Some (k, n)
          → is_due_at o k (timer_key n p) ≡ true
      other f =
          ⊎_elim (λ one. subst (λ c. is_due_at o c (timer_key n p) ≡ true) one.0 one.1)
          (λ none. absurd cc)
          (set-in Mono [] p o.mono k n
          (ap (λ ts. deadline_at ts p) (append-nil (by_places Mono o.mono)) ∙ f))

  -- if nothing is set at a place, nothing is due there
  pub not-due-at : (p : ℕ) → deadline_at (timer_list o) p ≡ None
      → (k : Clock) (q : TimerKey) → q.place ≡ p → is_due_at o k q ≡ true → ⊥
  not-due-at p e Real q at h =
      (none-set Real (by_places Mono o.mono) p o.real e).0 q at h
  not-due-at p e Mono q at h =
      (none-set Mono [] p o.mono
      (ap (λ ts. deadline_at ts p) (append-nil (by_places Mono o.mono))
      ∙ (none-set Real (by_places Mono o.mono) p o.real e).1)).0 q at h
