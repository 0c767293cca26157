-- Gathered: the numbers of a chain, read one by one from its head.
use Rattle.std.proofs.Common.{◌≡◌, ◌∙◌, ◌<◌, ◌≤◌, ◌+◌, ℕ, suc, List, [], ◌∷◌, ◌++◌, length, take}
use Rattle.std.proofs.Common.{Option, Some, None, sym, ap, subst, arith}
use Rattle.std.proofs.Math.ListN.{set}
use Rattle.std.proofs.Math.Seq.{take-suc-set}
use Rattle.std.proofs.lemmas.List.{append-nil, append_assoc, length-append}
use Rattle.pt_table.specs.declared.objects.ObjectRow.{ObjectRow}
use Rattle.pt_table.specs.Linked.{is_linked, next_number, number_before, IsRowChain, IsLinkedList}
use Rattle.pt_table.proofs.Lookups.{some_inj, none_some}

-- one more number is written
pub one-written : (i : ℕ) (ns : List ℕ) (n : ℕ) → i < length ns
    → take (i + 1) (set ns i n) ≡ take i ns ++ n ∷ []
one-written i ns n within =
    let e : i + 1 ≡ suc i = omega arith in
    ap (λ k. take k (set ns i n)) e ∙ take-suc-set ns i n within

module _ {T : Type 0} (rows : List (ObjectRow T)) (head : Option ℕ) where
  -- these numbers of a head's chain were read, and the rest of it begins here
  pub record IsGathered (rest : Option ℕ) (done : List ℕ) : Type 0 where
    pub left : List ℕ
    pub whole : IsRowChain rows head (done ++ left)
    pub from : Option ℕ
    pub leads : IsLinkedList (next_number rows) (number_before rows) (is_linked rows) from rest left

  pub gathers-none : (ns : List ℕ) → IsRowChain rows head ns → (done : List ℕ) → done ≡ []
      → IsGathered head done
  gathers-none ns l done e =
      subst (λ d. IsGathered head d) (sym e)
      (record { left = ns; whole = l; from = None; leads = l })

  module _ (rest : Option ℕ) (done : List ℕ) (d : IsGathered rest done) where
    -- as long as a number is left, there is room for it
    pub has-room : (most : ℕ) → ((ns : List ℕ) → IsRowChain rows head ns → length ns ≤ most)
        → (first : ℕ) → rest ≡ Some first → length done < most
    has-room most within first e =
        go d.left d.leads (within (done ++ d.left) d.whole) (length-append done d.left)
      where
        go : (left : List ℕ)
            → IsLinkedList (next_number rows) (number_before rows) (is_linked rows) d.from rest left
            → length (done ++ left) ≤ most → length (done ++ left) ≡ length done + length left
            → length done < most
        go [] l fits sum = absurd (none_some (sym l ∙ e))
        go (n ∷ ns) l fits sum = omega (arith, fits, sum)

    -- one more is read
    pub gathers-more : (first : ℕ) → rest ≡ Some first
        → IsGathered (next_number rows first) (done ++ first ∷ [])
    gathers-more first e = go d.left d.whole d.leads
      where
        go : (left : List ℕ) → IsRowChain rows head (done ++ left)
            → IsLinkedList (next_number rows) (number_before rows) (is_linked rows) d.from rest left
            → IsGathered (next_number rows first) (done ++ first ∷ [])
        go [] w l = absurd (none_some (sym l ∙ e))
        go (n ∷ tail) w l =
            let same : n ≡ first = some_inj (sym l.0 ∙ e) in
            subst (λ m. IsGathered (next_number rows m) (done ++ m ∷ [])) same (record {
              left = tail;
              whole = subst (IsRowChain rows head) (sym (append_assoc done (n ∷ []) tail)) w;
              from = Some n;
              leads = l.4;
            })

    -- all are read
    pub gathers-all : rest ≡ None → IsRowChain rows head done
    gathers-all e = go d.left d.whole d.leads
      where
        go : (left : List ℕ) → IsRowChain rows head (done ++ left)
            → IsLinkedList (next_number rows) (number_before rows) (is_linked rows) d.from rest left
            → IsRowChain rows head done
        go [] w l = subst (IsRowChain rows head) (append-nil done) w
        go (n ∷ tail) w l = absurd (none_some (sym e ∙ l.0))
