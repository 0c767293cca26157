-- Walked: a chain that is followed some steps from its head.
use Rattle.std.proofs.Common.{◌≡◌, ◌+◌, ◌<◌, ◌≤◌, ◌∙◌, ℕ, List, [], ◌∷◌, length, Option, Some}
use Rattle.std.proofs.Common.{None, refl, sym}
use Rattle.std.proofs.Common.{subst, arith}
use Rattle.pt_table.specs.declared.objects.ObjectRow.{ObjectRow}
use Rattle.std.specs.List.{AllByRecursion as Each}
use Rattle.pt_table.specs.Linked.{is_linked, next_number, number_before, IsRowChain, IsRising}
use Rattle.pt_table.specs.Linked.{IsLinkedList}
use Rattle.pt_table.proofs.Lookups.{some_inj, none_some}

module _ {T : Type 0} (rows : List (ObjectRow T)) where
  -- some rows of a chain, from here on
  abbrev pub IsRest : Option ℕ → List ℕ → Type 0
  IsRest rest left =
      (p : Option ℕ) × IsLinkedList (next_number rows) (number_before rows)
      (is_linked rows) p rest left

  -- this many steps from the head of a chain, the others of its rows are left
  abbrev pub IsWalked : Option ℕ → ℕ → Option ℕ → Type 0
  IsWalked head steps rest =
      (ns : List ℕ) → IsRowChain rows head ns
      → (left : List ℕ) × IsRest rest left × (length ns ≡ steps + length left)

  pub walk-begins : (head : Option ℕ) → IsWalked head 0 head
  walk-begins head ns l = (ns, (None, l), omega arith)

  pub walk-on : (head rest : Option ℕ) (steps first : ℕ) → IsWalked head steps rest
      → rest ≡ Some first → IsWalked head (steps + 1) (next_number rows first)
  walk-on head rest steps first w e ns l = go (w ns l).0 (w ns l).1 (w ns l).2
    where
      go : (left : List ℕ) → IsRest rest left → length ns ≡ steps + length left
          → (more : List ℕ) × IsRest (next_number rows first) more
          × (length ns ≡ (steps + 1) + length more)
      go [] r sum = absurd (none_some (sym r.1 ∙ e))
      go (n ∷ more) r sum = (
        more,
        (
          Some n,
          subst (λ m. IsLinkedList (next_number rows) (number_before rows) (is_linked rows)
              (Some n) (next_number rows m) more) (sym (some_inj (sym e ∙ r.1.0))) r.1.4,
        ),
        omega (arith, sum),
      )

  pub walk-ends : (head rest : Option ℕ) (steps : ℕ) → IsWalked head steps rest → rest ≡ None
      → (ns : List ℕ) → IsRowChain rows head ns → length ns ≤ steps
  walk-ends head rest steps w e ns l = go (w ns l).0 (w ns l).1 (w ns l).2
    where
      go : (left : List ℕ) → IsRest rest left → length ns ≡ steps + length left
          → length ns ≤ steps
      go [] r sum = omega (arith, sum)
      go (n ∷ more) r sum = absurd (none_some (sym e ∙ r.1.0))

  -- the numbers of a chain rise if those from this one on do
  abbrev pub IsRisingTo : Option ℕ → ℕ → Type 0
  IsRisingTo head last =
      (ns : List ℕ) → IsRowChain rows head ns
      → (left : List ℕ) × IsRest (Some last) (last ∷ left)
      × (IsRising (last ∷ left) → IsRising ns)

  pub rise-begins : (head : Option ℕ) (last : ℕ) → head ≡ Some last → IsRisingTo head last
  rise-begins head last e [] l = absurd (none_some (sym l ∙ e))
  rise-begins head last e (n ∷ ns) l =
      let same : n ≡ last = some_inj (sym l.0 ∙ e) in
      subst (λ m. (left : List ℕ) × IsRest (Some m) (m ∷ left)
      × (IsRising (m ∷ left) → IsRising (n ∷ ns))) same
      (ns, (None, (refl, l.1, l.2, l.3, l.4)), λ up. up)

  -- numbers above a number are above each lower one
  above : (low high : ℕ) (ns : List ℕ) → low < high → Each (λ m. high < m) ns
      → Each (λ m. low < m) ns
  above low high [] lt each = tt
  above low high (n ∷ ns) lt each =
      (omega (arith, lt, each.0), above low high ns lt each.1)

  pub rise-on : (head : Option ℕ) (last next : ℕ) → IsRisingTo head last
      → next_number rows last ≡ Some next → last < next → IsRisingTo head next
  rise-on head last next to e lt ns l = go (to ns l).0 (to ns l).1 (to ns l).2
    where
      go : (left : List ℕ) → IsRest (Some last) (last ∷ left)
          → (IsRising (last ∷ left) → IsRising ns)
          → (more : List ℕ) × IsRest (Some next) (next ∷ more)
          × (IsRising (next ∷ more) → IsRising ns)
      go [] r up = absurd (none_some (sym r.1.4 ∙ e))
      go (n ∷ more) r up =
          let there = r.1.4 in
          let same : n ≡ next = some_inj (sym there.0 ∙ e) in
          subst (λ m. (more : List ℕ) × IsRest (Some m) (m ∷ more)
          × (IsRising (m ∷ more) → IsRising ns)) same (
            more,
            (Some last, (refl, there.1, there.2, there.3, there.4)),
            λ rest. up (
              (
                subst (λ m. last < m) (sym same) lt,
                above last n more (subst (λ m. last < m) (sym same) lt) rest.0,
              ),
              rest,
            ),
          )

  pub rise-ends : (head : Option ℕ) (last : ℕ) → IsRisingTo head last
      → next_number rows last ≡ None → (ns : List ℕ) → IsRowChain rows head ns → IsRising ns
  rise-ends head last to e ns l = go (to ns l).0 (to ns l).1 (to ns l).2
    where
      go : (left : List ℕ) → IsRest (Some last) (last ∷ left)
          → (IsRising (last ∷ left) → IsRising ns) → IsRising ns
      go [] r up = up (tt, tt)
      go (n ∷ more) r up = absurd (none_some (sym e ∙ r.1.4.0))

  -- an empty chain rises
  pub rise-none : (head : Option ℕ) → head ≡ None → (ns : List ℕ) → IsRowChain rows head ns
      → IsRising ns
  rise-none head e [] l = tt
  rise-none head e (n ∷ ns) l = absurd (none_some (sym e ∙ l.0))
