-- The answers that remain from an index on.
use Rattle.std.proofs.Common.{◌≡◌, ℕ, zero, suc, ◌+◌, ◌<◌, List, [], ◌∷◌, Some, None}
use Rattle.std.proofs.Common.{drop, length, slice_get, refl, ap, ◌∙◌, arith}
use Rattle.std.proofs.lemmas.Option.{slice_get_within}

-- none remains from an index past the end
pub none_left : {X : Type 0} (xs : List X) (i : ℕ) → slice_get xs i ≡ None → drop i xs ≡ []
none_left [] zero e = refl
none_left [] (suc i) e = refl
none_left (x ∷ xs) zero e = absurd cc
none_left (x ∷ xs) (suc i) e = none_left xs i e

-- the answer at the index is the next one, and the others follow it
pub next_left : {X : Type 0} (xs : List X) (i : ℕ) (x : X) → slice_get xs i ≡ Some x
    → drop i xs ≡ x ∷ drop (i + 1) xs
next_left {X = X} xs i x e = go xs i e ∙ ap (λ n. x ∷ drop n xs) next
  where
    go : (ys : List X) (n : ℕ) → slice_get ys n ≡ Some x → drop n ys ≡ x ∷ drop (suc n) ys
    go [] zero e = absurd cc
    go [] (suc n) e = absurd cc
    go (y ∷ ys) zero e = cc
    go (y ∷ ys) (suc n) e = go ys n e

    next : suc i ≡ i + 1
    next = omega arith

-- one more answer can be counted
pub counts_on : {X : Type 0} (xs : List X) (i n : ℕ) (x : X) → slice_get xs i ≡ Some x
    → length xs < n → i + 1 < n
counts_on xs i n x e few = omega (arith, slice_get_within xs i x e, few)
