-- Chains of objects as a row is written, added or removed.
use Rattle.std.proofs.Common.{◌≡◌, ◌∙◌, ℕ, Bool, true, false, cond, nat_eq, List, Option, Some}
use Rattle.std.proofs.Common.{None, refl, sym, ap, true≢false, inl, inr, arith}
use Rattle.std.specs.Option.{option_map}
use Rattle.std.proofs.lemmas.Bool.Decides.{eqb_tells, nat_tests}
use Rattle.pt_table.specs.declared.objects.ObjectRow.{ObjectRow}
use Rattle.pt_table.specs.ObjectRows.{object_at, link_of, with_object, and_object, without_object}
use Rattle.pt_table.specs.ObjectRows.{out_of_chains}
use Rattle.pt_table.specs.Linked.{is_linked, linked_by, IsRowChain}
use Rattle.pt_table.proofs.ChainCallers.{chain-kept, chain-linked, link-valued, link-added}
use Rattle.pt_table.proofs.ChainCallers.{link-removed}
use Rattle.pt_records.specs.declared.objects.Object.{Object}
use Rattle.pt_records.specs.Chained.{KeepsChains}
use Rattle.pt_records.proofs.RowLemmas.{row-without}
use Rattle.pt_records.proofs.ObjectWrites.{number_in}

module _ {A : Type 0} where
  -- chains are unchanged if the rows that are in one keep their links
  pub chain-stays : (old new : List (ObjectRow (Object A))) → KeepsChains old new
      → (head : Option ℕ) (numbers : List ℕ) → IsRowChain old head numbers
      → IsRowChain new head numbers
  chain-stays old new k head numbers l =
      chain-kept old new head numbers
      (λ m i. k.links m (chain-linked old head numbers l m i)) l

  -- writing a value leaves all chains unchanged
  pub keeps-written : (rows : List (ObjectRow (Object A))) (o : ℕ) (x : Object A)
      → KeepsChains rows (with_object rows o x)
  keeps-written rows o x = record {
    linked = λ m. ap linked_by (link-valued rows o x m);
    links = λ m e. link-valued rows o x m;
  }

  -- a row that is linked differs from one that is not
  apart : (rows : List (ObjectRow (Object A))) (o m : ℕ) → is_linked rows o ≡ false
      → is_linked rows m ≡ true → nat_eq m o ≡ false
  apart rows o m free e = elim (eqb_tells m o) [
    | inl s ↦ absurd (true≢false (sym e ∙ ap (is_linked rows) s.1 ∙ free))
    | inr s ↦ s.0
  ]

  -- a new row is in no chain
  pub keeps-added : (rows : List (ObjectRow (Object A))) (o : ℕ) (name : List ℕ) (x : Object A)
      → object_at rows o ≡ None → KeepsChains rows (and_object rows o name x)
  keeps-added rows o name x new =
      record { linked = linked; links = links }
    where
      free : is_linked rows o ≡ false
      free = ap (λ r. linked_by (option_map (λ (row : ObjectRow (Object A)). row.link) r)) new

      links : (m : ℕ) → is_linked rows m ≡ true
          → link_of (and_object rows o name x) m ≡ link_of rows m
      links m e =
          link-added rows o name x new m
          ∙ ap (λ b. cond b (Some out_of_chains) (link_of rows m)) (apart rows o m free e)

      linked : (m : ℕ) → is_linked (and_object rows o name x) m ≡ is_linked rows m
      linked m = ap linked_by (link-added rows o name x new m) ∙ elim (eqb_tells m o) [
        | inl s ↦ rw s.0 (sym (ap (is_linked rows) s.1 ∙ free))
        | inr s ↦ rw s.0 refl
      ]

  -- whether a row that is found is linked
  abbrev link_in : Option (ObjectRow (Object A)) → Bool
  link_in row = linked_by (option_map (λ (r : ObjectRow (Object A)). r.link) row)

  -- a row that is removed was in no chain
  pub keeps-removed : (rows : List (ObjectRow (Object A))) (o : ℕ) → is_linked rows o ≡ false
      → KeepsChains rows (without_object rows o)
  keeps-removed rows o free =
      record {
        linked = linked;
        links = λ m e. link-removed rows o m (turned m (apart rows o m free e));
      }
    where
      turned : (m : ℕ) → nat_eq m o ≡ false → nat_eq o m ≡ false
      turned m e = grind (arith, nat_tests)

      linked : (m : ℕ) → is_linked (without_object rows o) m ≡ is_linked rows m
      linked m = elim (eqb_tells o m) [
        | inl s ↦
            ap link_in
            (row-without number_in rows o m
            ∙ ap (λ b. cond b None (object_at rows m)) s.0)
            ∙ sym (ap (is_linked rows) (sym s.1) ∙ free)
        | inr s ↦ ap linked_by (link-removed rows o m s.0)
      ]
