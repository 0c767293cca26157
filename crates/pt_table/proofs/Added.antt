-- Adding a row: a new row in a vacant slot is the last one that is listed.
use Rattle.std.proofs.Common.{◌≡◌, ◌≢◌, ◌+◌, ◌∙◌, ℕ, cond, nat_eq, false, List, [], ◌∷◌}
use Rattle.std.proofs.Common.{◌++◌, length, ap, sym, refl, arith, Option, None, Some, inl, inr}
use Rattle.std.proofs.Common.{length-append, is_some, count_by, ◌<◌, ◌≤◌}
use Rattle.std.specs.List.{cons_option}
use Rattle.std.specs.Option.{option_map, option_and_then}
use Rattle.std.specs.Map.{lookup, remove_entry}
use Rattle.std.proofs.lemmas.Bool.{eq-eqb}
use Rattle.std.proofs.lemmas.Bool.Decides.{eqb_tells}
use Rattle.pt_table.specs.Slots.{row_in_slot, number_in_slot, with_number, its_row, rows_listed}
use Rattle.pt_table.specs.Slots.{IsNumbered}
use Rattle.pt_table.specs.Rows.{row_at}
use Rattle.pt_table.proofs.Lookups.{some_inj, lookup_none-parts, lookup-append_some}
use Rattle.pt_table.proofs.Lookups.{lookup-append_none, lookup-removed, Distinct-append}
use Rattle.pt_table.proofs.Listed.{Tells, its-there, its-none, number_free}
use Rattle.pt_table.proofs.Packed.{IsNumbered-without, rows_without}

-- a list with one more row is still within the limit
pub one_more : {R : Type 0} (old now new : List R) (row : R) (most : ℕ) → new ≡ now ++ row ∷ []
    → now ≡ old → length old < most → length new ≤ most
one_more old now new row most longer same room =
    omega (arith, ap length longer, ap length same, length-append now (row ∷ []), room)

module _ {R : Type 0} {number : R → ℕ} {slots : List (Option R)} {numbers : List (ℕ × ℕ)}
    (new : List (Option R)) (row : R) (key : ℕ)
    (h : IsNumbered number slots numbers)
    (vacant : row_in_slot slots key ≡ None)
    (here : row_in_slot new key ≡ Some row)
    (others : (k : ℕ) → k ≢ key → row_in_slot new k ≡ row_in_slot slots k)
    (free : row_at number (rows_listed number slots numbers) (number row) ≡ None)
    (more : count_by is_some new ≡ count_by is_some slots + 1) where
  abbrev its : ℕ
  its = number row

  abbrev left : List (ℕ × ℕ)
  left = remove_entry (nat_eq its) numbers

  abbrev longer : List (ℕ × ℕ)
  longer = left ++ (its, key) ∷ []

  -- no row had the number before
  none : (k : ℕ) → number_in_slot number slots k ≢ Some its
  none = number_free h its free

  -- the number of the new row in its slot
  own : (n : ℕ) → number_in_slot number new key ≡ Some n → its ≡ n
  own n e = some_inj (sym (ap (option_map number) here) ∙ e)

  -- the entry of another number leads to what it led to before
  same_entry : (e : ℕ × ℕ) → nat_eq its e.0 ≡ false
      → its_row number new e.0 e.1 ≡ its_row number slots e.0 e.1
  same_entry e apart = by (eqb_tells e.1 key)
    where
      by : Tells e.1 key → its_row number new e.0 e.1 ≡ its_row number slots e.0 e.1
      by (inl s) =
          its-none number new e.0 e.1 (λ there.
          let same = own e.0 (ap (number_in_slot number new) (sym s.1) ∙ there) in
          cc (eq-eqb its e.0 same, apart))
          ∙ sym (ap (option_and_then (with_number number e.0))
          (ap (row_in_slot slots) s.1 ∙ vacant))
      by (inr a) = ap (option_and_then (with_number number e.0)) (others e.1 a.1)

  rows_same : (es : List (ℕ × ℕ)) → lookup (nat_eq its) es ≡ None
      → rows_listed number new es ≡ rows_listed number slots es
  rows_same [] absent = refl
  rows_same (e ∷ es) absent =
      let parts = lookup_none-parts (nat_eq its) e es absent in
      ap (λ o. cons_option o (rows_listed number new es)) (same_entry e parts.0)
      ∙ ap (cons_option (its_row number slots e.0 e.1)) (rows_same es parts.1)

  append_option : (o : Option R) (xs ys : List R)
      → cons_option o (xs ++ ys) ≡ cons_option o xs ++ ys
  append_option None xs ys = refl
  append_option (Some r) xs ys = refl

  rows_last : (es : List (ℕ × ℕ))
      → rows_listed number new (es ++ (its, key) ∷ []) ≡ rows_listed number new es ++ row ∷ []
  rows_last [] = ap (λ o. cons_option o []) (its-there number new its key row here refl)
  rows_last (e ∷ es) =
      ap (cons_option (its_row number new e.0 e.1)) (rows_last es)
      ∙ append_option (its_row number new e.0 e.1) (rows_listed number new es) (row ∷ [])

  pub rows_listed-added : rows_listed number new longer
      ≡ rows_listed number slots numbers ++ row ∷ []
  rows_listed-added =
      rows_last left
      ∙ ap (λ rs. rs ++ row ∷ []) (rows_same left (lookup-removed its numbers h.distinct)
      ∙ rows_without number slots its none numbers)

  -- the numbers without the one that is added
  without : IsNumbered number slots left
  without = IsNumbered-without number slots its none numbers h

  numbered_again : (k n : ℕ) → number_in_slot number new k ≡ Some n
      → lookup (nat_eq n) longer ≡ Some k
  numbered_again k n e = by (eqb_tells k key)
    where
      by : Tells k key → lookup (nat_eq n) longer ≡ Some k
      by (inl s) =
          let same = own n (ap (number_in_slot number new) (sym s.1) ∙ e) in
          lookup-append_none (nat_eq n) left its key
          (ap (λ m. lookup (nat_eq m) left) (sym same) ∙ lookup-removed its numbers h.distinct)
          ∙ ap (λ b. cond b (Some key) None) (eq-eqb n its (sym same))
          ∙ ap Some (sym s.1)
      by (inr a) =
          lookup-append_some (nat_eq n) left its key k
          (without.numbered k n (sym (ap (option_map number) (others k a.1)) ∙ e))

  -- the numbers list the new row too
  pub IsNumbered-added : IsNumbered number new longer
  IsNumbered-added = record {
    numbered = numbered_again;
    distinct =
        Distinct-append its key left without.distinct (lookup-removed its numbers h.distinct);
    counted =
        omega (
          arith,
          more,
          h.counted,
          ap length rows_listed-added,
          length-append (rows_listed number slots numbers) (row ∷ []),
        );
  }
