-- Where two accounts of what a client did part.
use Rattle.std.proofs.Common.{◌≡◌, ◌≢◌, ℕ, inl, inr, List, [], ◌∷◌, Some, refl, sym, ◌∙◌, subst}
use Rattle.std.proofs.Common.{arith}
use Rattle.pt_model.specs.declared.entry.Event.{Event}
use Rattle.pt_client_events.specs.OwnEvents.{PartsAt, Finds}

-- they part at one place at most
pub parts-once : (xs ys : List (ℕ × Event)) (j k : ℕ) → PartsAt xs ys j → PartsAt xs ys k → j ≡ k
parts-once [] [] j k p q = absurd p
parts-once (x ∷ xs) [] j k p q = sym p ∙ q
parts-once [] (y ∷ ys) j k p q = sym p ∙ q
parts-once (x ∷ xs) (y ∷ ys) j k (inl p) (inl q) = parts-once xs ys j k p.1 q.1
parts-once (x ∷ xs) (y ∷ ys) j k (inl p) (inr q) = absurd (q.0 p.0)
parts-once (x ∷ xs) (y ∷ ys) j k (inr p) (inl q) = absurd (p.0 q.0)
parts-once (x ∷ xs) (y ∷ ys) j k (inr p) (inr q) = sym p.1 ∙ q.1

-- equal accounts never part
pub parts-never : (xs ys : List (ℕ × Event)) (j : ℕ) → xs ≡ ys → PartsAt xs ys j → ⊥
parts-never xs ys j e p = go ys (subst (λ zs. PartsAt zs ys j) e p)
  where
    go : (xs : List (ℕ × Event)) → PartsAt xs xs j → ⊥
    go [] p = p
    go (x ∷ xs) (inl p) = go xs p.1
    go (x ∷ xs) (inr p) = p.0 refl

-- so the place at which they part is the least
pub parts-found : (xs ys : List (ℕ × Event)) (k : ℕ) → PartsAt xs ys k
    → Finds (PartsAt xs ys) (xs ≡ ys) (Some k)
parts-found xs ys k p =
    (p, λ j q. let same : k ≡ j = parts-once xs ys k j p q in omega (arith, same))

-- accounts agree if what remains of them does, and part where what remains of them parts
pub record Reduces (xs ys us vs : List (ℕ × Event)) : Type 0 where
  pub same : us ≡ vs → xs ≡ ys
  pub parts : (k : ℕ) → PartsAt us vs k → PartsAt xs ys k

pub reduces-not : (xs ys : List (ℕ × Event)) → Reduces xs ys xs ys
reduces-not xs ys = record { same = λ e. e; parts = λ k p. p }

pub reduces-one : (xs ys us vs : List (ℕ × Event)) (x y : ℕ × Event)
    → Reduces xs ys (x ∷ us) (y ∷ vs) → x ≡ y → Reduces xs ys us vs
reduces-one xs ys us vs x y r e =
    record {
      same = λ s. r.same (rw (e, s) refl);
      parts = λ k p. r.parts k (inl (e, p));
    }

-- the same after both are replaced by equal ones
pub reduces-as : (xs ys us vs ss ts : List (ℕ × Event)) → Reduces xs ys us vs → us ≡ ss → vs ≡ ts
    → Reduces xs ys ss ts
reduces-as xs ys us vs ss ts r e f =
    subst (λ zs. Reduces xs ys ss zs) f (subst (λ zs. Reduces xs ys zs vs) e r)
