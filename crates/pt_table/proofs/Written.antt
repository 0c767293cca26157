-- Changing a row in its slot, if the row keeps its number.
use Rattle.std.proofs.Common.{◌≡◌, ◌≢◌, ◌∙◌, ℕ, zero, suc, Bool, true, false, cond, nat_eq, List}
use Rattle.std.proofs.Common.{[], ◌∷◌, refl}
use Rattle.std.proofs.Common.{ap, sym, arith, length, map, Option, None, Some, is_some, count_by}
use Rattle.std.proofs.Common.{inl, inr, get_or-set_same, get_or-set_other}
use Rattle.std.proofs.Math.ListN.{set}
use Rattle.std.proofs.lemmas.List.{length-map}
use Rattle.std.proofs.lemmas.List.Sums.{sum_by-cons}
use Rattle.std.specs.List.{cons_option}
use Rattle.std.specs.Option.{option_map, option_and_then}
use Rattle.std.proofs.lemmas.Bool.{eq-eqb}
use Rattle.std.proofs.lemmas.Bool.Decides.{eqb_tells}
use Rattle.pt_table.specs.Rows.{changed_at, row_at}
use Rattle.pt_table.specs.Slots.{row_in_slot, with_number, its_row, rows_listed, IsNumbered}
use Rattle.pt_table.proofs.Listed.{Tells, slot_within, its-is, same_slot, number_found}

-- a slot with a row still counts after its row is changed
same_count : {R : Type 0} (slots : List (Option R)) (slot : ℕ) (row new : R)
    → row_in_slot slots slot ≡ Some row
    → count_by is_some (set slots slot (Some new)) ≡ count_by is_some slots
same_count [] slot row new here = cc
same_count (None ∷ slots) zero row new here = cc
same_count (Some r ∷ slots) zero row new here =
    omega (
      arith,
      sum_by-cons (λ o. cond (is_some o) 1 0) (Some new) slots,
      sum_by-cons (λ o. cond (is_some o) 1 0) (Some r) slots,
    )
same_count (o ∷ slots) (suc slot) row new here =
    omega (
      arith,
      sum_by-cons (λ o. cond (is_some o) 1 0) o (set slots slot (Some new)),
      sum_by-cons (λ o. cond (is_some o) 1 0) o slots,
      same_count slots slot row new here,
    )

module _ {R : Type 0} {number : R → ℕ} {slots : List (Option R)} {numbers : List (ℕ × ℕ)}
    (row : R) (slot : ℕ) (change : R → R)
    (keeps : (r : R) → number (change r) ≡ number r)
    (h : IsNumbered number slots numbers)
    (here : row_in_slot slots slot ≡ Some row) where
  abbrev written : List (Option R)
  written = set slots slot (Some (change row))

  -- the row in the written slot, and those in the others
  pub written_here : row_in_slot written slot ≡ Some (change row)
  written_here =
      get_or-set_same slots slot (Some (change row)) None (slot_within slots slot row here)

  pub written_other : (k : ℕ) → k ≢ slot → row_in_slot written k ≡ row_in_slot slots k
  written_other k apart = get_or-set_other slots slot k (Some (change row)) None apart

  -- a part of the row that the change keeps is unchanged in each slot
  pub same_in : {X : Type 0} (part : R → X) → part (change row) ≡ part row → (k : ℕ)
      → option_map part (row_in_slot written k) ≡ option_map part (row_in_slot slots k)
  same_in part kept k = elim (eqb_tells k slot) [
    | inl same ↦
        ap (option_map part) (ap (row_in_slot written) same.1 ∙ written_here)
        ∙ ap Some kept
        ∙ sym (ap (option_map part) (ap (row_in_slot slots) same.1 ∙ here))
    | inr apart ↦ ap (option_map part) (written_other k apart.1)
  ]

  -- a row after the write
  abbrev after : R → R
  after r = cond (nat_eq (number row) (number r)) (change r) r

  unchanged : (k : ℕ) (r : R) → k ≢ slot → row_in_slot slots k ≡ Some r → after r ≡ r
  unchanged k r apart is = by (eqb_tells (number row) (number r))
    where
      by : Tells (number row) (number r) → after r ≡ r
      by (inl s) =
          absurd (apart (same_slot h (number row) k slot
          (ap (option_map number) is ∙ ap Some (sym s.1)) (ap (option_map number) here)))
      by (inr a) = ap (λ b. cond b (change r) r) a.0

  at_entry : (e : ℕ × ℕ)
      → its_row number written e.0 e.1 ≡ option_map after (its_row number slots e.0 e.1)
  at_entry e = by (eqb_tells e.1 slot)
    where
      there : (b : Bool) → cond b (Some (change row)) None
          ≡ option_map after (cond b (Some row) None)
      there true =
          sym (ap (λ b. Some (cond b (change row) row)) (eq-eqb (number row) (number row) refl))
      there false = refl

      elsewhere : (o : Option R) → its_row number slots e.0 e.1 ≡ o → e.1 ≢ slot
          → o ≡ option_map after o
      elsewhere None is apart = refl
      elsewhere (Some r) is apart =
          ap Some (sym (unchanged e.1 r apart (its-is number slots e.0 e.1 r is).0))

      by : Tells e.1 slot
          → its_row number written e.0 e.1 ≡ option_map after (its_row number slots e.0 e.1)
      by (inl s) =
          ap (option_and_then (with_number number e.0))
          (ap (row_in_slot written) s.1 ∙ written_here)
          ∙ ap (λ k. cond (nat_eq e.0 k) (Some (change row)) None) (keeps row)
          ∙ there (nat_eq e.0 (number row))
          ∙ sym (ap (λ o. option_map after (option_and_then (with_number number e.0) o))
          (ap (row_in_slot slots) s.1 ∙ here))
      by (inr a) =
          ap (option_and_then (with_number number e.0)) (written_other e.1 a.1)
          ∙ elsewhere (its_row number slots e.0 e.1) refl a.1

  mapped : (o : Option R) (xs : List R)
      → map after (cons_option o xs) ≡ cons_option (option_map after o) (map after xs)
  mapped None xs = refl
  mapped (Some r) xs = refl

  rows_written : (es : List (ℕ × ℕ))
      → rows_listed number written es
      ≡ changed_at number change (rows_listed number slots es) (number row)
  rows_written [] = refl
  rows_written (e ∷ es) =
      ap (λ o. cons_option o (rows_listed number written es)) (at_entry e)
      ∙ ap (cons_option (option_map after (its_row number slots e.0 e.1))) (rows_written es)
      ∙ sym (mapped (its_row number slots e.0 e.1) (rows_listed number slots es))

  pub rows_listed-written : rows_listed number written numbers
      ≡ changed_at number change (rows_listed number slots numbers) (number row)
  rows_listed-written = rows_written numbers

  pub length-written : length (rows_listed number written numbers)
      ≡ length (rows_listed number slots numbers)
  length-written =
      ap length rows_listed-written ∙ length-map (rows_listed number slots numbers) after

  pub IsNumbered-written : IsNumbered number written numbers
  IsNumbered-written = record {
    numbered = λ k n e. h.numbered k n (sym (same_in number (keeps row) k) ∙ e);
    distinct = h.distinct;
    counted =
        same_count slots slot row (change row) here ∙ h.counted ∙ sym length-written;
  }

-- the rows of a table after the row of a number is changed
module _ {R : Type 0} {number : R → ℕ} {slots : List (Option R)} {numbers : List (ℕ × ℕ)}
    (h : IsNumbered number slots numbers) (rows : List R)
    (view : rows_listed number slots numbers ≡ rows) (n slot : ℕ) (row : R)
    (at : row_in_slot slots slot ≡ row_at number (rows_listed number slots numbers) n)
    (here : row_in_slot slots slot ≡ Some row) where
  pub row_found : row_at number rows n ≡ Some row
  row_found = ap (λ rs. row_at number rs n) (sym view) ∙ sym at ∙ here

  pub rows_changed : (change : R → R) → ((r : R) → number (change r) ≡ number r)
      → rows_listed number (set slots slot (Some (change row))) numbers
      ≡ changed_at number change rows n
  rows_changed change keeps =
      rows_listed-written row slot change keeps h here
      ∙ ap (λ rs. changed_at number change rs (number row)) view
      ∙ ap (changed_at number change rows) (number_found number rows n row row_found)
