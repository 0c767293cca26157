-- Where a client's entries and its claims part: not at a claim that the history has, if the places of
-- both rise.
use Rattle.std.proofs.Common.{◌≡◌, ◌≢◌, ◌⊎◌, ℕ, ◌<◌, min, subst, List, [], ◌∷◌, ◌++◌, inl, inr, sym, ap, ◌∙◌, arith}
use Rattle.pt_model.specs.declared.entry.Event.{Event}
use Rattle.pt_model.specs.Searches.{In, Each}
use Rattle.pt_client_events.specs.OwnEvents.{PartsAt}

-- events with their places
abbrev Placed : Type 0
Placed = ℕ × Event

abbrev pub Above : ℕ → List Placed → Type 0
Above j xs = Each (λ x. j < x.0) xs

-- the places rise
abbrev pub Rises : List Placed → Type 0
Rises [] = Unit {0}
Rises (x ∷ xs) = Above x.0 xs × Rises xs

-- these don't begin at this place, and entries above it don't part from them there
abbrev pub IsPast : ℕ → List Placed → Type 0
IsPast j ds = (own : List Placed) → Above j own → PartsAt own ds j → ⊥

above-in : (j : ℕ) (xs : List Placed) (x : Placed) → Above j xs → In x xs → j < x.0
above-in j [] x a i = absurd i
above-in j (y ∷ ys) x a (inl e) = omega (arith, a.0, ap (λ (p : Placed). p.0) e)
above-in j (y ∷ ys) x a (inr i) = above-in j ys x a.1 i

min_place-place : (a b j : ℕ) → (a < j) ⊎ (b < j) → min a b ≡ j → ⊥
min_place-place a b j (inl l) e = omega (arith, l, e)
min_place-place a b j (inr l) e = omega (arith, l, e)

greater-place : (a b j : ℕ) → j < a → j < b → min a b ≡ j → ⊥
greater-place a b j l m e = omega (arith, l, m, e)

pub nothing-past : (j : ℕ) → IsPast j []
nothing-past j [] a p = p
nothing-past j (x ∷ xs) a p = omega (arith, a.0, p)

-- one more claim, at another place
pub one-past : (j : ℕ) (d : Placed) → d.0 ≢ j → IsPast j (d ∷ [])
one-past j d n [] a p = n p
one-past j d n (x ∷ xs) a (inl p) = nothing-past j xs a.1 p.1
one-past j d n (x ∷ xs) a (inr p) = n (other x.0 d.0 a.0 p.1)
  where
    other : (a b : ℕ) → j < a → min a b ≡ j → b ≡ j
    other a b l e = omega (arith, l, e)

late-past : (j : ℕ) (rs ds : List Placed) → Above j rs → IsPast j ds → IsPast j (rs ++ ds)
late-past j [] ds a f own b p = f own b p
late-past j (r ∷ rs) ds a f [] b p = omega (arith, a.0, p)
late-past j (r ∷ rs) ds a f (x ∷ xs) b (inl p) = late-past j rs ds a.1 f xs b.1 p.1
late-past j (r ∷ rs) ds a f (x ∷ xs) b (inr p) = greater-place x.0 r.0 j b.0 a.0 p.1

-- they don't part at an event that both have
pub never-parts : (own rs ds : List Placed) (x : Placed) → Rises own → Rises rs → In x own → In x rs
    → IsPast x.0 ds → PartsAt own (rs ++ ds) x.0 → ⊥
never-parts [] rs ds x a b i k f p = absurd i
never-parts (o ∷ os) [] ds x a b i k f p = absurd k
never-parts (o ∷ os) (r ∷ rs) ds x a b (inl i) (inl k) f (inl p) =
    late-past x.0 rs ds (subst (λ (y : Placed). Above y.0 rs) (sym k) b.0) f os
    (subst (λ (y : Placed). Above y.0 os) (sym i) a.0) p.1
never-parts (o ∷ os) (r ∷ rs) ds x a b (inl i) (inl k) f (inr p) = p.0 (sym i ∙ k)
never-parts (o ∷ os) (r ∷ rs) ds x a b (inl i) (inr k) f (inl p) =
    omega (arith, above-in r.0 rs x b.0 k, ap (λ (y : Placed). y.0) (i ∙ p.0))
never-parts (o ∷ os) (r ∷ rs) ds x a b (inl i) (inr k) f (inr p) =
    min_place-place o.0 r.0 x.0 (inr (above-in r.0 rs x b.0 k)) p.1
never-parts (o ∷ os) (r ∷ rs) ds x a b (inr i) (inl k) f (inl p) =
    omega (arith, above-in o.0 os x a.0 i, ap (λ (y : Placed). y.0) (k ∙ sym p.0))
never-parts (o ∷ os) (r ∷ rs) ds x a b (inr i) (inl k) f (inr p) =
    min_place-place o.0 r.0 x.0 (inl (above-in o.0 os x a.0 i)) p.1
never-parts (o ∷ os) (r ∷ rs) ds x a b (inr i) (inr k) f (inl p) =
    never-parts os rs ds x a.1 b.1 i k f p.1
never-parts (o ∷ os) (r ∷ rs) ds x a b (inr i) (inr k) f (inr p) =
    min_place-place o.0 r.0 x.0 (inl (above-in o.0 os x a.0 i)) p.1
