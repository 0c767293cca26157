-- The length of a chain: at most the number of rows.
use Rattle.std.proofs.Common.{◌≡◌, ◌≤◌, ◌+◌, ◌∙◌, ℕ, Bool, true, false, cond, not, nat_eq, List, []}
use Rattle.std.proofs.Common.{◌∷◌, length, Option, Some, None, is_some, refl, sym, ap, subst, inl}
use Rattle.std.proofs.Common.{inr, arith, true≢false}
use Rattle.std.proofs.lemmas.Bool.{eqb-true}
use Rattle.pt_table.specs.declared.objects.ObjectRow.{ObjectRow}
use Rattle.pt_table.specs.ObjectRows.{object_at, has_object}
use Rattle.pt_table.specs.Linked.{IsOneOf, but_number, IsLinkedList, IsRowChain, is_linked}
use Rattle.pt_table.specs.Linked.{next_number}
use Rattle.pt_table.specs.Linked.{number_before}
use Rattle.pt_table.proofs.Lookups.{turned}
use Rattle.pt_table.proofs.Links.{linked-there}
use Rattle.pt_table.proofs.Chained.{all-linked, but-none, but-there}

-- no number occurs twice
abbrev pub Once : List ℕ → Type 0
Once [] = Unit {0}
Once (n ∷ ns) = (IsOneOf ns n → ⊥) × Once ns

-- taking a number out shortens a list by one at most
but-length : (n : ℕ) (ns : List ℕ) → Once ns → length ns ≤ length (but_number ns n) + 1
but-length n [] once = omega arith
but-length n (m ∷ ms) once = go (but-length n ms once.1) (nat_eq n m) refl
  where
    go : length ms ≤ length (but_number ms n) + 1 → (b : Bool) → nat_eq n m ≡ b
        → length (m ∷ ms) ≤ length (cond (not b) (m ∷ but_number ms n) (but_number ms n)) + 1
    go ih true e =
        let left : length (but_number ms n) ≡ length ms =
        ap length (but-none n ms (subst (λ x. IsOneOf ms x → ⊥) (sym (eqb-true n m e)) once.0)) in
        omega (arith, left)
    go ih false e = omega (arith, ih)

once-but : (n : ℕ) (ns : List ℕ) → Once ns → Once (but_number ns n)
once-but n [] once = tt
once-but n (m ∷ ms) once = go (once-but n ms once.1) (nat_eq n m)
  where
    go : Once (but_number ms n) → (b : Bool)
        → Once (cond (not b) (m ∷ but_number ms n) (but_number ms n))
    go ih true = ih
    go ih false = (λ i. once.0 (but-there n ms m i), ih)

but-apart : (n : ℕ) (ns : List ℕ) (k : ℕ) → IsOneOf (but_number ns n) k → nat_eq k n ≡ false
but-apart n [] k i = absurd i
but-apart n (m ∷ ms) k i = go (but-apart n ms k) (nat_eq n m) refl i
  where
    go : (IsOneOf (but_number ms n) k → nat_eq k n ≡ false) → (b : Bool) → nat_eq n m ≡ b
        → IsOneOf (cond (not b) (m ∷ but_number ms n) (but_number ms n)) k → nat_eq k n ≡ false
    go ih true e i = ih i
    go ih false e (inl s) = turned n k (ap (nat_eq n) s ∙ e)
    go ih false e (inr j) = ih j

pub once-chain : (nx bf : ℕ → Option ℕ) (lk : ℕ → Bool) (p h : Option ℕ) (ns : List ℕ)
    → IsLinkedList nx bf lk p h ns → Once ns
once-chain nx bf lk p h [] l = tt
once-chain nx bf lk p h (n ∷ ns) l = (l.3, once-chain nx bf lk (Some n) (nx n) ns l.4)

module _ {T : Type 0} where
  fits : (rows : List (ObjectRow T)) (ns : List ℕ) → Once ns
      → ((m : ℕ) → IsOneOf ns m → has_object rows m ≡ true) → length ns ≤ length rows
  fits [] [] once has = omega arith
  fits [] (n ∷ ns) once has = absurd (true≢false (sym (has n (inl refl))))
  fits (r ∷ rows) ns once has =
      let shorter = but-length r.number ns once in
      let rest = fits rows (but_number ns r.number) (once-but r.number ns once) (λ m i.
      ap (λ b. is_some (cond b (Some r) (object_at rows m))) (sym (but-apart r.number ns m i))
      ∙ has m (but-there r.number ns m i)) in
      omega (arith, shorter, rest)

  -- the length of a chain is at most the number of rows
  pub chain-fits : (rows : List (ObjectRow T)) (head : Option ℕ) (ns : List ℕ)
      → IsRowChain rows head ns → length ns ≤ length rows
  chain-fits rows head ns l =
      fits rows ns
      (once-chain (next_number rows) (number_before rows) (is_linked rows) None head ns l)
      (λ m i. linked-there rows m
      (all-linked (next_number rows) (number_before rows) (is_linked rows) None head ns l m i))
