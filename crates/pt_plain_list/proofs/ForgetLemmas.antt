-- What is left of a list when elements are taken away from its end to its start.
use Rattle.std.proofs.Common.{◌≡◌, ℕ, zero, suc, ◌-◌, ◌<◌, ◌≤◌, Bool, true, false, cond, List, []}
use Rattle.std.proofs.Common.{◌∷◌, ◌++◌, length, take, drop, filter, get_or, refl, sym, ap, ◌∙◌}
use Rattle.std.proofs.Common.{subst, arith, length-append, length-take, length-drop}
use Rattle.std.specs.List.{remove}
use Rattle.pt_waitq.specs.ListLemmas.{filter-shorter}

pub one-less : (i n : ℕ) → i ≤ n → i - 1 ≤ n
one-less i n h = omega arith

pub goes-down : (i : ℕ) → 0 < i → i - 1 < i
goes-down i some = omega arith

pub at-most : (i n : ℕ) → i ≡ n → i ≤ n
at-most i n e = omega arith

module _ {X : Type 0} (p : X → Bool) where
  all-kept : (old : List X)
      → old ≡ take (length old) old ++ filter p (drop (length old) old)
  all-kept [] = refl
  all-kept (o ∷ old) = ap (λ xs. o ∷ xs) (all-kept old)

  -- before the first step
  pub kept-first : (old : List X) (i : ℕ) → i ≡ length old
      → old ≡ take i old ++ filter p (drop i old)
  kept-first old i e =
      subst (λ n. old ≡ take n old ++ filter p (drop n old)) (sym e) (all-kept old)

  -- there is an element ahead of an index
  pub stands-ahead : (old xs : List X) (i len : ℕ) → 0 < i → i ≤ length old
      → xs ≡ take i old ++ filter p (drop i old) → len ≡ length xs → i - 1 < len
  stands-ahead old xs i len some le e fits =
      let parts = length-append (take i old) (filter p (drop i old)) in
      omega (arith, ap length e, parts, length-take i old)

  stays : (old xs : List X) (k : ℕ) (x : X) → k < length old
      → xs ≡ take (suc k) old ++ filter p (drop (suc k) old) → x ≡ get_or xs k x → p x ≡ true
      → xs ≡ take k old ++ filter p (drop k old)
  stays [] xs k x lt e at t = absurd (omega arith)
  stays (o ∷ old) xs zero x lt e at t =
      let same : x ≡ o = at ∙ ap (λ ys. get_or ys 0 x) e in
      e ∙ sym (ap (λ b. cond b (o ∷ filter p old) (filter p old)) (sym (ap p same) ∙ t))
  stays (o ∷ old) xs (suc k) x lt e at t =
      let ys = take (suc k) old ++ filter p (drop (suc k) old) in
      let there : x ≡ get_or ys k x = at ∙ ap (λ zs. get_or zs (suc k) x) e in
      e ∙ ap (λ zs. o ∷ zs) (stays old ys k x (omega arith) refl there t)

  goes : (old xs : List X) (k : ℕ) (x : X) → k < length old
      → xs ≡ take (suc k) old ++ filter p (drop (suc k) old) → x ≡ get_or xs k x → p x ≡ false
      → remove xs k ≡ take k old ++ filter p (drop k old)
  goes [] xs k x lt e at t = absurd (omega arith)
  goes (o ∷ old) xs zero x lt e at t =
      let same : x ≡ o = at ∙ ap (λ ys. get_or ys 0 x) e in
      ap (λ ys. remove ys 0) e
      ∙ sym (ap (λ b. cond b (o ∷ filter p old) (filter p old)) (sym (ap p same) ∙ t))
  goes (o ∷ old) xs (suc k) x lt e at t =
      let ys = take (suc k) old ++ filter p (drop (suc k) old) in
      let there : x ≡ get_or ys k x = at ∙ ap (λ zs. get_or zs (suc k) x) e in
      ap (λ zs. remove zs (suc k)) e
      ∙ ap (λ zs. o ∷ zs) (goes old ys k x (omega arith) refl there t)

  -- an element stays, or is taken away
  pub kept-more : (old xs : List X) (i : ℕ) (x : X) → 0 < i → i ≤ length old
      → xs ≡ take i old ++ filter p (drop i old) → x ≡ get_or xs (i - 1) x → p x ≡ true
      → xs ≡ take (i - 1) old ++ filter p (drop (i - 1) old)
  kept-more old xs i x some le e at t =
      let next : suc (i - 1) ≡ i = omega arith in
      stays old xs (i - 1) x (omega arith)
      (subst (λ n. xs ≡ take n old ++ filter p (drop n old)) (sym next) e) at t

  pub kept-less : (old xs ys : List X) (i : ℕ) (x : X) → 0 < i → i ≤ length old
      → xs ≡ take i old ++ filter p (drop i old) → x ≡ get_or xs (i - 1) x → p x ≡ false
      → ys ≡ remove xs (i - 1) → ys ≡ take (i - 1) old ++ filter p (drop (i - 1) old)
  kept-less old xs ys i x some le e at t gone =
      let next : suc (i - 1) ≡ i = omega arith in
      gone
      ∙ goes old xs (i - 1) x (omega arith)
      (subst (λ n. xs ≡ take n old ++ filter p (drop n old)) (sym next) e) at t

  -- after the last step
  pub kept-last : (old xs : List X) (i : ℕ) → i ≤ 0
      → xs ≡ take i old ++ filter p (drop i old) → xs ≡ filter p old
  kept-last old xs zero le e = e
  kept-last old xs (suc k) le e = absurd (omega arith)

  -- and it is no longer than it was
  pub kept-shorter : (old xs : List X) (n : ℕ) → n ≤ length old
      → xs ≡ take n old ++ filter p (drop n old) → length xs ≤ length old
  kept-shorter old xs n le e =
      let parts = length-append (take n old) (filter p (drop n old)) in
      let rest = filter-shorter p (drop n old) in
      omega (arith, ap length e, parts, length-take n old, length-drop n old, rest)
