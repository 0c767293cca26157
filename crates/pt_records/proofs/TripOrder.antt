-- Answers in order of the places of their calls.
use Rattle.std.proofs.Common.{◌≡◌, ℕ, suc, ◌+◌, ◌≤◌, ◌==◌, Bool, true, false, cond, not, List}
use Rattle.std.proofs.Common.{[], ◌∷◌, filter, length, map, refl, sym, ap, ◌∙◌, subst, arith}
use Rattle.std.proofs.Common.{inl, inr}
use Rattle.std.specs.List.{AllByRecursion as Each}
use Rattle.std.proofs.lemmas.Bool.{cases_order, eq-eqb, false≢true}
use Rattle.pt_waitq.specs.declared.waiter.Waiter.{Waiter}
use Rattle.pt_model.specs.Searches.{In}
use Rattle.pt_model.proofs.Lists.{In-filter}
use Rattle.pt_records.specs.declared.answers.Answered.{Answered}
use Rattle.pt_records.specs.Arrivals.{AreInOrder, answer_to_earlier}
use Rattle.pt_records.specs.Counts.{count_if_passed}
use Rattle.pt_records.proofs.ArrivalLemmas.{to_place}

-- each call's place is greater than those before it, and at least n
abbrev pub Climbs : ℕ → List Answered → Type 0
Climbs n [] = Unit {0}
Climbs n (a ∷ ts) = (n ≤ a.place) × Climbs (suc a.place) ts

climbs-late : (n : ℕ) (ts : List Answered) (a : Answered) → Climbs n ts → In a ts → n ≤ a.place
climbs-late n [] a c i = absurd i
climbs-late n (b ∷ bs) a c (inl e) = subst (λ (x : Answered). n ≤ x.place) (sym e) c.0
climbs-late n (b ∷ bs) a c (inr i) = omega (arith, c.0, climbs-late (suc b.place) bs a c.1 i)

-- two such lists with the same answers are equal
pub climbs-same : (m n : ℕ) (xs ys : List Answered) → Climbs m xs → Climbs n ys
    → ((a : Answered) → In a xs → In a ys) → ((a : Answered) → In a ys → In a xs) → xs ≡ ys
climbs-same m n [] [] c d there back = refl
climbs-same m n [] (y ∷ ys) c d there back = absurd (back y (inl refl))
climbs-same m n (x ∷ xs) [] c d there back = absurd (there x (inl refl))
climbs-same m n (x ∷ xs) (y ∷ ys) c d there back =
    heads (there x (inl refl)) (back y (inl refl))
    (λ e. climbs-same (suc x.place) (suc y.place) xs ys c.1 d.1
    (λ a i. ahead e a i (there a (inr i))) (λ a i. behind e a i (back a (inr i))))
  where
    heads : In x (y ∷ ys) → In y (x ∷ xs) → (x ≡ y → xs ≡ ys) → x ∷ xs ≡ y ∷ ys
    heads (inl e) j f = subst (λ z. x ∷ xs ≡ z ∷ ys) e (ap (λ zs. x ∷ zs) (f e))
    heads (inr i) (inl e) f =
        subst (λ z. x ∷ xs ≡ z ∷ ys) (sym e) (ap (λ zs. x ∷ zs) (f (sym e)))
    heads (inr i) (inr j) f =
        absurd (omega (
          arith,
          climbs-late (suc y.place) ys x d.1 i,
          climbs-late (suc x.place) xs y c.1 j,
        ))

    ahead : x ≡ y → (a : Answered) → In a xs → In a (y ∷ ys) → In a ys
    ahead e a i (inr j) = j
    ahead e a i (inl same) =
        absurd (omega (
          arith,
          climbs-late (suc x.place) xs a c.1 i,
          ap (λ (z : Answered). z.place) (same ∙ sym e),
        ))

    behind : x ≡ y → (a : Answered) → In a ys → In a (x ∷ xs) → In a xs
    behind e a i (inr j) = j
    behind e a i (inl same) =
        absurd (omega (
          arith,
          climbs-late (suc y.place) ys a d.1 i,
          ap (λ (z : Answered). z.place) (same ∙ e),
        ))

-- the answers to other calls
abbrev others : ℕ → List Answered → List Answered
others n ts = filter (λ (a : Answered). not (a.place == n)) ts

others-length : (n : ℕ) (ts : List Answered) → length ts ≡ to_place n ts + length (others n ts)
others-length n [] = refl
others-length n (a ∷ ts) = go (a.place == n) (others-length n ts)
  where
    go : (t : Bool) → length ts ≡ to_place n ts + length (others n ts)
        → suc (length ts) ≡ count_if_passed t + to_place n ts
        + length (cond (not t) (a ∷ others n ts) (others n ts))
    go true ih = omega (arith, ih)
    go false ih = omega (arith, ih)

others-fewer : (m n : ℕ) (ts : List Answered) → to_place m (others n ts) ≤ to_place m ts
others-fewer m n [] = omega arith
others-fewer m n (a ∷ ts) = go (a.place == n) (others-fewer m n ts)
  where
    go : (t : Bool) → to_place m (others n ts) ≤ to_place m ts
        → to_place m (cond (not t) (a ∷ others n ts) (others n ts))
        ≤ count_if_passed (a.place == m) + to_place m ts
    go true ih = omega (arith, ih)
    go false ih = omega (arith, ih)

-- a list with at most one answer to each call is no longer than a list with all those answers
pub lone-length : (xs ys : List Answered) → ((n : ℕ) → to_place n xs ≤ 1)
    → ((a : Answered) → In a xs → In a ys) → length xs ≤ length ys
lone-length [] [] lone there = omega arith
lone-length (x ∷ xs) [] lone there = absurd (there x (inl refl))
lone-length xs (y ∷ ys) lone there =
    omega (
      arith,
      others-length y.place xs,
      lone y.place,
      lone-length (others y.place xs) ys
          (λ n. omega (arith, lone n, others-fewer n y.place xs)) left,
    )
  where
    left : (a : Answered) → In a (others y.place xs) → In a ys
    left a i = go (In-filter (λ (b : Answered). not (b.place == y.place)) xs a i)
      where
        go : In a xs × (not (a.place == y.place) ≡ true) → In a ys
        go p = rest (there a p.0)
          where
            rest : In a (y ∷ ys) → In a ys
            rest (inr j) = j
            rest (inl same) =
                let yes : (a.place == y.place) ≡ true =
                eq-eqb a.place y.place (ap (λ (z : Answered). z.place) same) in
                absurd (false≢true (ap not (sym yes) ∙ p.1))

-- an element of a list, and its image
module _ {X : Type 0} (f : X → Answered) where
  pub map-in : (xs : List X) (x : X) → In x xs → In (f x) (map f xs)
  map-in [] x i = absurd i
  map-in (y ∷ ys) x (inl e) = inl (ap f e)
  map-in (y ∷ ys) x (inr i) = inr (map-in ys x i)

  pub in-map : (xs : List X) (a : Answered) → In a (map f xs) → (x : X) × (In x xs × (a ≡ f x))
  in-map [] a i = absurd i
  in-map (y ∷ ys) a (inl e) = (y, (inl refl, e))
  in-map (y ∷ ys) a (inr i) =
      let found = in-map ys a i in (found.0, (inr found.1.0, found.1.1))

counts : (n : ℕ) (ts : List Answered) (x : Answered) → In x ts → x.place ≡ n → 1 ≤ to_place n ts
counts n [] x i e = absurd i
counts n (a ∷ ts) x (inl same) e =
    let here : a.place ≡ n = ap (λ (z : Answered). z.place) (sym same) ∙ e in
    rw (eq-eqb a.place n here) (omega arith)
counts n (a ∷ ts) x (inr i) e = omega (arith, counts n ts x i e)

-- answers to waiters in order of places, no two of which have the same place
pub order-climbs : (k n : ℕ) (vs : List Waiter) → AreInOrder vs
    → ((m : ℕ) → to_place m (map (answer_to_earlier k) vs) ≤ 1)
    → Each (λ v. n ≤ v.place) vs → Climbs n (map (answer_to_earlier k) vs)
order-climbs k n [] r lone late = tt
order-climbs k n (v ∷ vs) r lone late = (
  late.0,
  order-climbs k (suc v.place) vs r.1
      (λ m. omega (arith, lone m)) (above vs r.0 (λ u i. i)),
)
  where
    own : count_if_passed (v.place == v.place) ≡ 1
    own = rw (eq-eqb v.place v.place refl) refl

    later : (u : Waiter) → In u vs → v.place ≤ u.place → suc v.place ≤ u.place
    later u i le = elim (cases_order v.place u.place) [
      | inl e ↦ absurd (omega (
        arith,
        lone v.place,
        own,
        counts v.place (map (answer_to_earlier k) vs) (answer_to_earlier k u)
            (map-in (answer_to_earlier k) vs u i) (sym e),
      ))
      | inr (inl lt) ↦ omega (arith, lt)
      | inr (inr gt) ↦ absurd (omega (arith, gt, le))
    ]

    above : (us : List Waiter) → Each (λ u. v.place ≤ u.place) us
        → ((u : Waiter) → In u us → In u vs) → Each (λ u. suc v.place ≤ u.place) us
    above [] all there = tt
    above (u ∷ us) all there =
        (later u (there u (inl refl)) all.0, above us all.1 (λ x i. there x (inr i)))
