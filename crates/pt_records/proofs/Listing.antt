-- The numbers of a list with one more, and of a list without one.
use Rattle.std.proofs.Common.{◌≡◌, ◌∙◌, ℕ, Bool, true, false, cond, not, nat_eq, List, [], ◌∷◌}
use Rattle.std.proofs.Common.{refl, sym, inl, inr, arith}
use Rattle.std.proofs.lemmas.Bool.Decides.{nat_tests}
use Rattle.pt_table.specs.Linked.{IsOneOf, but_number}

pub but-kept : (ns : List ℕ) (n p : ℕ) → (n ≡ p → ⊥) → IsOneOf ns p → IsOneOf (but_number ns n) p
but-kept [] n p apart i = absurd i
but-kept (m ∷ ms) n p apart i = go (but-kept ms n p apart) (nat_eq n m) refl i
  where
    go : (IsOneOf ms p → IsOneOf (but_number ms n) p) → (b : Bool) → nat_eq n m ≡ b
        → IsOneOf (m ∷ ms) p → IsOneOf (cond (not b) (m ∷ but_number ms n) (but_number ms n)) p
    go ih true t (inl e) =
        let same : n ≡ m = grind (arith, nat_tests) in
        absurd (apart (same ∙ sym e))
    go ih true t (inr i) = ih i
    go ih false t (inl e) = inl e
    go ih false t (inr i) = inr (ih i)

pub but-listed : (ns : List ℕ) (n p : ℕ) → IsOneOf (but_number ns n) p
    → IsOneOf ns p × (n ≡ p → ⊥)
but-listed [] n p i = absurd i
but-listed (m ∷ ms) n p i = go (but-listed ms n p) (nat_eq n m) refl i
  where
    go : (IsOneOf (but_number ms n) p → IsOneOf ms p × (n ≡ p → ⊥)) → (b : Bool) → nat_eq n m ≡ b
        → IsOneOf (cond (not b) (m ∷ but_number ms n) (but_number ms n)) p
        → IsOneOf (m ∷ ms) p × (n ≡ p → ⊥)
    go ih true t i =
        let k = ih i in
        (inr k.0, k.1)
    go ih false t (inl e) = (inl e, λ s. other t (s ∙ e))
      where
        other : nat_eq n m ≡ false → n ≡ m → ⊥
        other t e = grind (arith, nat_tests)
    go ih false t (inr i) =
        let k = ih i in
        (inr k.0, k.1)
