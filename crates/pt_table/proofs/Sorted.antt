-- Sorted: a chain whose numbers are gathered, sorted, and linked anew.
use Rattle.std.proofs.Common.{◌≡◌, ◌∙◌, ◌<◌, ◌≤◌, ◌-◌, ℕ, suc, List, [], ◌∷◌, ◌++◌, length, take}
use Rattle.std.proofs.Common.{Option, None, refl, sym, ap, subst, inl, inr, arith}
use Rattle.std.specs.Prelude.{slice_index_or, IsPermutation}
use Rattle.std.specs.List.Sorted.{IsNonDecreasing}
use Rattle.std.proofs.Math.Seq.{take-suc}
use Rattle.std.proofs.lemmas.List.Sorted.{IsPermutation-sym}
use Rattle.pt_table.specs.declared.objects.ObjectRow.{ObjectRow}
use Rattle.pt_table.specs.Linked.{is_linked, next_number, number_before, IsRowChain, IsOneOf}
use Rattle.pt_table.specs.Linked.{IsRising}
use Rattle.pt_table.specs.Linked.{IsSortedTo, KeepsOthers}
use Rattle.pt_table.proofs.Chained.{all-linked, same-list}
use Rattle.pt_table.proofs.Counted.{once-chain, chain-fits}
use Rattle.pt_table.proofs.Relinked.{same-leads}
use Rattle.pt_table.proofs.Members.{in-or-out, members, sorted-rises}

-- the first i numbers of a list are the first i - 1 and the one after them
pub one-more : (i : ℕ) (ns : List ℕ) → 0 < i → i ≤ length ns
    → take i ns ≡ take (i - 1) ns ++ slice_index_or ns (i - 1) 0 ∷ []
one-more i ns some within =
    let e : i ≡ suc (i - 1) = omega (arith, some) in
    ap (λ k. take k ns) e ∙ take-suc ns (i - 1) 0 (omega (arith, some, within))

pub whole-front : (ns : List ℕ) → take (length ns) ns ≡ ns
whole-front [] = refl
whole-front (n ∷ ns) = ap (λ ms. n ∷ ms) (whole-front ns)

pub no-front : (i : ℕ) (ns : List ℕ) → i ≡ 0 → take i ns ≡ []
no-front i ns e = ap (λ k. take k ns) e

-- a list of at most one number rises
short-rises : (ns : List ℕ) → length ns ≤ 1 → IsRising ns
short-rises [] e = tt
short-rises (n ∷ []) e = (tt, tt)
short-rises (n ∷ k ∷ ns) e = absurd (omega (arith, e))

module _ {T : Type 0} where
  module _ (old : List (ObjectRow T)) (head : Option ℕ) (ns ms : List ℕ)
      (chain : IsRowChain old head ns) (moved : IsPermutation ns ms) where
    pub sorted-rise : IsNonDecreasing ms → IsRising ms
    sorted-rise up =
        sorted-rises ns ms
        (once-chain (next_number old) (number_before old) (is_linked old) None head ns chain)
        moved up

    pub was-there : (n : ℕ) → IsOneOf ms n → IsOneOf ns n
    was-there n i = members ns ms moved n i

    still-there : (n : ℕ) → IsOneOf ns n → IsOneOf ms n
    still-there n i = members ms ns (IsPermutation-sym ns ms moved) n i

    pub sorted-to : (new : List (ObjectRow T)) (after : Option ℕ) → IsNonDecreasing ms
        → IsRowChain new after ms → IsSortedTo old new head after
    sorted-to new after up linked numbers l =
        let e : ns ≡ numbers =
        same-list (next_number old) (number_before old) (is_linked old) None head ns numbers chain
        l in (
          ms,
          linked,
          sorted-rise up,
          λ n. (
            λ i. subst (λ xs. IsOneOf xs n) e (was-there n i),
            λ i. still-there n (subst (λ xs. IsOneOf xs n) (sym e) i),
          ),
        )

    -- the same numbers are linked as before
    pub linked-again : (new : List (ObjectRow T)) (after : Option ℕ) → IsRowChain new after ms
        → ((n : ℕ) → (IsOneOf ms n → ⊥) → is_linked new n ≡ is_linked old n)
        → (n : ℕ) → is_linked new n ≡ is_linked old n
    linked-again new after l back n = elim (in-or-out ns n) [
      | inl i ↦
          all-linked (next_number new) (number_before new) (is_linked new) None after ms l n
          (still-there n i)
          ∙ sym (all-linked (next_number old) (number_before old) (is_linked old) None head ns
          chain n i)
      | inr o ↦ back n (λ i. o (was-there n i))
    ]

    -- chains that have no number in common with these are unchanged
    pub others-kept : (new : List (ObjectRow T))
        → ((n : ℕ) → (IsOneOf ms n → ⊥) → next_number new n ≡ next_number old n)
        → ((n : ℕ) → (IsOneOf ms n → ⊥) → number_before new n ≡ number_before old n)
        → ((n : ℕ) → (IsOneOf ms n → ⊥) → is_linked new n ≡ is_linked old n)
        → KeepsOthers old new head
    others-kept new next before linked numbers l other os m apart =
        same-leads (next_number old) (next_number new) (number_before old) (number_before new)
        (is_linked old) (is_linked new) None other os (λ n i. next n (out n i))
        (λ n i. before n (out n i)) (λ n i. linked n (out n i)) m
      where
        out : (n : ℕ) → IsOneOf os n → IsOneOf ms n → ⊥
        out n i j =
            let e : ns ≡ numbers =
            same-list (next_number old) (number_before old) (is_linked old) None head ns numbers
            chain l in
            apart n (subst (λ xs. IsOneOf xs n) e (was-there n j)) i

  -- a chain whose numbers rise is in order
  pub risen-sorted : (rows : List (ObjectRow T)) (head : Option ℕ)
      → ((ns : List ℕ) → IsRowChain rows head ns → IsRising ns) → IsSortedTo rows rows head head
  risen-sorted rows head up ns l = (ns, l, up ns l, λ n. (λ i. i, λ i. i))

  -- each chain of a table with at most one row rises
  pub table-rises : (rows : List (ObjectRow T)) (head : Option ℕ) → length rows < 2
      → (ns : List ℕ) → IsRowChain rows head ns → IsRising ns
  table-rises rows head few ns l =
      let fits = chain-fits rows head ns l in
      short-rises ns (omega (arith, fits, few))
