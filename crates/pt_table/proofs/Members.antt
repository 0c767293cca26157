-- The numbers of a list, of two lists, of a list in another order, and of one that rises.
use Rattle.std.proofs.Common.{◌≡◌, ◌≤◌, ◌<◌, ◌⊎◌, ℕ, suc, Bool, true, false, nat_eq, cond, not}
use Rattle.std.proofs.Common.{List, [], ◌∷◌, ◌++◌, length, refl, sym, subst, inl, inr, arith}
use Rattle.std.specs.List.{AllByRecursion as Each, IsDistinct}
use Rattle.std.specs.Prelude.{IsPermutation, slice_index_or}
use Rattle.std.specs.List.Sorted.{IsNonDecreasing}
use Rattle.std.proofs.lemmas.Bool.Decides.{nat_tests, eqb_tells}
use Rattle.std.proofs.lemmas.Map.Keys.{IsDistinct-IsPermutation}
use Rattle.std.proofs.lemmas.List.Sorted.{All-permutation}
use Rattle.std.proofs.lemmas.List.Elements.{All-from_recursion, recursion_from_All}
use Rattle.pt_table.specs.Linked.{IsOneOf, IsRising, but_number}
use Rattle.pt_table.proofs.Counted.{Once}
use Rattle.pt_table.proofs.Chained.{differs, but-there}

pub in-left : (xs ys : List ℕ) (n : ℕ) → IsOneOf xs n → IsOneOf (xs ++ ys) n
in-left [] ys n i = absurd i
in-left (x ∷ xs) ys n (inl e) = inl e
in-left (x ∷ xs) ys n (inr i) = inr (in-left xs ys n i)

pub in-right : (xs ys : List ℕ) (n : ℕ) → IsOneOf ys n → IsOneOf (xs ++ ys) n
in-right [] ys n i = i
in-right (x ∷ xs) ys n i = inr (in-right xs ys n i)

pub in-either : (xs ys : List ℕ) (n : ℕ) → IsOneOf (xs ++ ys) n → IsOneOf xs n ⊎ IsOneOf ys n
in-either [] ys n i = inr i
in-either (x ∷ xs) ys n (inl e) = inl (inl e)
in-either (x ∷ xs) ys n (inr i) = elim (in-either xs ys n i) [ inl a ↦ inl (inr a) | inr b ↦ inr b ]

-- a number is in the list or not
pub in-or-out : (xs : List ℕ) (n : ℕ) → IsOneOf xs n ⊎ (IsOneOf xs n → ⊥)
in-or-out [] n = inr (λ i. i)
in-or-out (x ∷ xs) n = elim (eqb_tells n x) [
  | inl s ↦ inl (inl s.1)
  | inr a ↦ elim (in-or-out xs n) [
    | inl i ↦ inl (inr i)
    | inr out ↦ inr (λ i. elim i [ inl e ↦ a.1 e | inr j ↦ out j ])
  ]
]

each-of : (P : ℕ → Type 0) (xs : List ℕ) → ((n : ℕ) → IsOneOf xs n → P n) → Each P xs
each-of P [] f = tt
each-of P (x ∷ xs) f = (f x (inl refl), each-of P xs (λ n i. f n (inr i)))

every-of : (P : ℕ → Type 0) (xs : List ℕ)
    → ((i : ℕ) → i < length xs → P (slice_index_or xs i 0)) → Each P xs
every-of P [] f = tt
every-of P (x ∷ xs) f = (f 0 (omega arith), every-of P xs (λ i l. f (suc i) (omega (arith, l))))

pub pick : (P : ℕ → Type 0) (xs : List ℕ) → Each P xs → (n : ℕ) → IsOneOf xs n → P n
pick P [] all n i = absurd i
pick P (x ∷ xs) all n (inl e) = subst P (sym e) all.0
pick P (x ∷ xs) all n (inr i) = pick P xs all.1 n i

-- a list in another order has the same numbers
pub members : (xs ys : List ℕ) → IsPermutation xs ys → (n : ℕ) → IsOneOf ys n → IsOneOf xs n
members xs ys moved n i =
    pick (IsOneOf xs) ys
    (recursion_from_All (IsOneOf xs) ys
    (All-permutation (IsOneOf xs) xs ys moved
    (All-from_recursion (IsOneOf xs) xs (each-of (IsOneOf xs) xs (λ m j. j))))) n i

distinct : (xs : List ℕ) → Once xs → IsDistinct nat_eq xs
unfolding IsDistinct
distinct [] once = tt
distinct (x ∷ xs) once = (
  each-of (λ y. nat_eq x y ≡ false) xs (λ n i.
      differs x n (λ e. once.0 (subst (IsOneOf xs) (sym e) i))),
  distinct xs once.1,
)

rises : (xs : List ℕ) → IsNonDecreasing xs → IsDistinct nat_eq xs → IsRising xs
unfolding IsDistinct
rises [] up apart = tt
rises (x ∷ xs) up apart = (
  each-of (λ m. x < m) xs (λ n i.
      let low : x ≤ n = pick (λ m. x ≤ m) xs
      (every-of (λ m. x ≤ m) xs (λ k l. up 0 (suc k) 0 (omega arith) (omega (arith, l)))) n i in
      let other : nat_eq x n ≡ false = pick (λ m. nat_eq x m ≡ false) xs apart.0 n i in
      grind (arith, nat_tests)),
  rises xs (λ i j d le l. up (suc i) (suc j) d (omega (arith, le)) (omega (arith, l))) apart.1,
)

flips : (x y : ℕ) → nat_eq x y ≡ nat_eq y x
flips x y = grind (arith, nat_tests)

-- sorted numbers that differ rise
pub sorted-rises : (xs ys : List ℕ) → Once xs → IsPermutation xs ys → IsNonDecreasing ys
    → IsRising ys
sorted-rises xs ys once moved up =
    rises ys up (IsDistinct-IsPermutation nat_eq flips xs ys moved (distinct xs once))

-- a number of a rising list is less than those after it
pub less-than-last : (xs ys : List ℕ) (m n : ℕ) → IsRising (xs ++ m ∷ ys) → IsOneOf xs n → n < m
less-than-last [] ys m n rise i = absurd i
less-than-last (x ∷ xs) ys m n rise (inl e) =
    subst (λ k. k < m) (sym e)
    (pick (λ k. x < k) (xs ++ m ∷ ys) rise.0 m (in-right xs (m ∷ ys) m (inl refl)))
less-than-last (x ∷ xs) ys m n rise (inr i) = less-than-last xs ys m n rise.1 i

-- a rising list still rises after one of its numbers is taken out
pub rising-but : (m : ℕ) (ns : List ℕ) → IsRising ns → IsRising (but_number ns m)
rising-but m [] rise = tt
rising-but m (n ∷ ns) rise = go (rising-but m ns rise.1) (nat_eq m n)
  where
    go : IsRising (but_number ns m) → (b : Bool)
        → IsRising (cond (not b) (n ∷ but_number ns m) (but_number ns m))
    go ih true = ih
    go ih false = (
      each-of (λ k. n < k) (but_number ns m) (λ k i.
          pick (λ k. n < k) ns rise.0 k (but-there m ns k i)),
      ih,
    )
