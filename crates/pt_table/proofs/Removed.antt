-- Taking a row out: its slot is empty, and its number leads to no row.
use Rattle.std.proofs.Common.{◌≡◌, ◌≢◌, ◌+◌, ◌∙◌, ℕ, Bool, true, false, cond, nat_eq, List, [], ◌∷◌}
use Rattle.std.proofs.Common.{refl, ap, sym, subst, arith, length, Option, None, Some, inl, inr}
use Rattle.std.proofs.Common.{not}
use Rattle.std.proofs.Common.{get_or-set_same, get_or-set_other, count_by, is_some, filter}
use Rattle.std.proofs.Math.ListN.{set}
use Rattle.std.specs.List.{cons_option}
use Rattle.std.specs.Option.{option_map, option_and_then}
use Rattle.std.specs.Map.{lookup}
use Rattle.std.proofs.lemmas.Bool.{eq-eqb}
use Rattle.std.proofs.lemmas.Bool.Decides.{eqb_tells}
use Rattle.pt_table.specs.Rows.{row_at, without}
use Rattle.pt_table.specs.Slots.{row_in_slot, number_in_slot, with_number, its_row, rows_listed}
use Rattle.pt_table.specs.Slots.{Distinct, IsNumbered}
use Rattle.pt_table.proofs.Lookups.{some_inj, none_some}
use Rattle.std.specs.Prelude.{OnSome}
use Rattle.std.proofs.Common.{true≢false, ◌≤◌}
use Rattle.pt_table.proofs.Listed.{Tells, slot_within, its-is, row_at-listed, same_slot}
use Rattle.pt_table.proofs.Listed.{number_found}

-- if no row has the number, none is taken out
pub without_absent : {R : Type 0} (number : R → ℕ) (rows : List R) (n : ℕ)
    → row_at number rows n ≡ None → without number rows n ≡ rows
without_absent number [] n h = refl
without_absent number (r ∷ rows) n h =
    by (without_absent number rows n) (nat_eq n (number r)) h
  where
    by : (row_at number rows n ≡ None → without number rows n ≡ rows) → (b : Bool)
        → cond b (Some r) (row_at number rows n) ≡ None
        → cond (not b) (r ∷ without number rows n) (without number rows n) ≡ r ∷ rows
    by ih true h = cc
    by ih false h = ap (λ rs. r ∷ rs) (ih h)

-- a row that is taken out is not found
pub not_found : {R : Type 0} (number : R → ℕ) (rows : List R) (n : ℕ)
    → row_at number (without number rows n) n ≡ None
not_found number [] n = refl
not_found number (r ∷ rows) n = by (not_found number rows n) (nat_eq n (number r)) refl
  where
    by : row_at number (without number rows n) n ≡ None → (b : Bool) → nat_eq n (number r) ≡ b
        → row_at number (cond (not b) (r ∷ without number rows n) (without number rows n)) n
        ≡ None
    by ih true e = ih
    by ih false e = ap (λ b. cond b (Some r) (row_at number (without number rows n) n)) e ∙ ih

-- no row is added by a removal
pub no_more : {R : Type 0} (number : R → ℕ) (rows : List R) (n : ℕ)
    → length (without number rows n) ≤ length rows
no_more number [] n = omega arith
no_more number (r ∷ rows) n = by (no_more number rows n) (nat_eq n (number r))
  where
    by : length (without number rows n) ≤ length rows → (b : Bool)
        → length (cond (not b) (r ∷ without number rows n) (without number rows n))
        ≤ length (r ∷ rows)
    by ih true = omega (arith, ih)
    by ih false = omega (arith, ih)

module _ {R : Type 0} {number : R → ℕ} {slots : List (Option R)} {numbers : List (ℕ × ℕ)}
    (row : R) (n slot : ℕ)
    (h : IsNumbered number slots numbers)
    (here : row_in_slot slots slot ≡ Some row)
    (its : number row ≡ n) where
  abbrev left : List (Option R)
  left = set slots slot None

  pub empty : row_in_slot left slot ≡ None
  empty = get_or-set_same slots slot None None (slot_within slots slot row here)

  pub kept : (k : ℕ) → k ≢ slot → row_in_slot left k ≡ row_in_slot slots k
  kept k apart = get_or-set_other slots slot k None None apart

  -- a slot that still has a row is not the one that was emptied
  pub other_slot : {X : Type 0} (part : R → X) (k : ℕ) (x : X)
      → option_map part (row_in_slot left k) ≡ Some x → k ≢ slot
  other_slot part k x e same =
      none_some (sym (ap (option_map part) (ap (row_in_slot left) same ∙ empty)) ∙ e)

  there : number_in_slot number slots slot ≡ Some n
  there = ap (option_map number) here ∙ ap Some its

  -- whether a row stays
  abbrev stays : R → Bool
  stays r = not (nat_eq n (number r))

  abbrev if_stays : R → Option R
  if_stays r = cond (stays r) (Some r) None

  -- a row in another slot stays
  stays_there : (k : ℕ) (r : R) → k ≢ slot → row_in_slot slots k ≡ Some r → if_stays r ≡ Some r
  stays_there k r apart is = by (eqb_tells n (number r))
    where
      by : Tells n (number r) → if_stays r ≡ Some r
      by (inl s) =
          absurd (apart (same_slot h n k slot (ap (option_map number) is ∙ ap Some (sym s.1))
          there))
      by (inr a) = ap (λ b. cond (not b) (Some r) None) a.0

  at_entry : (e : ℕ × ℕ)
      → its_row number left e.0 e.1 ≡ option_and_then if_stays (its_row number slots e.0 e.1)
  at_entry e = by (eqb_tells e.1 slot) (its_row number slots e.0 e.1) refl
    where
      by : Tells e.1 slot → (o : Option R) → its_row number slots e.0 e.1 ≡ o
          → its_row number left e.0 e.1 ≡ option_and_then if_stays o
      by (inl s) None is =
          ap (option_and_then (with_number number e.0)) (ap (row_in_slot left) s.1 ∙ empty)
      by (inl s) (Some r) is =
          let same : r ≡ row =
          some_inj (sym (its-is number slots e.0 e.1 r is).0 ∙ ap (row_in_slot slots) s.1 ∙ here) in
          ap (option_and_then (with_number number e.0)) (ap (row_in_slot left) s.1 ∙ empty)
          ∙ sym (ap (λ b. cond (not b) (Some r) None)
          (eq-eqb n (number r) (sym (ap number same ∙ its))))
      by (inr a) None is =
          ap (option_and_then (with_number number e.0)) (kept e.1 a.1) ∙ is
      by (inr a) (Some r) is =
          ap (option_and_then (with_number number e.0)) (kept e.1 a.1) ∙ is
          ∙ sym (stays_there e.1 r a.1 (its-is number slots e.0 e.1 r is).0)

  filtered : (o : Option R) (xs : List R)
      → filter stays (cons_option o xs) ≡ cons_option (option_and_then if_stays o) (filter stays xs)
  filtered None xs = refl
  filtered (Some r) xs = by (stays r)
    where
      by : (b : Bool) → cond b (r ∷ filter stays xs) (filter stays xs)
          ≡ cons_option (cond b (Some r) None) (filter stays xs)
      by true = refl
      by false = refl

  rows_left : (es : List (ℕ × ℕ))
      → rows_listed number left es ≡ without number (rows_listed number slots es) n
  rows_left [] = refl
  rows_left (e ∷ es) =
      ap (λ o. cons_option o (rows_listed number left es)) (at_entry e)
      ∙ ap (cons_option (option_and_then if_stays (its_row number slots e.0 e.1))) (rows_left es)
      ∙ sym (filtered (its_row number slots e.0 e.1) (rows_listed number slots es))

  pub rows_listed-removed : rows_listed number left numbers
      ≡ without number (rows_listed number slots numbers) n
  rows_listed-removed = rows_left numbers

  -- one row fewer is listed
  one_fewer : (es : List (ℕ × ℕ)) → Distinct es
      → row_at number (rows_listed number slots es) n ≡ Some row
      → length (rows_listed number slots es)
      ≡ length (without number (rows_listed number slots es) n) + 1
  one_fewer [] once at = absurd (none_some at)
  one_fewer (e ∷ es) once at =
      by (one_fewer es once.1) (its_row number slots e.0 e.1) refl at
    where
      rest : List R
      rest = rows_listed number slots es

      by : (row_at number rest n ≡ Some row → length rest ≡ length (without number rest n) + 1)
          → (o : Option R) → its_row number slots e.0 e.1 ≡ o
          → row_at number (cons_option o rest) n ≡ Some row
          → length (cons_option o rest) ≡ length (without number (cons_option o rest) n) + 1
      by ih None is at = ih at
      by ih (Some r) is at = go (eqb_tells n (number r)) at
        where
          go : Tells n (number r) → cond (nat_eq n (number r)) (Some r) (row_at number rest n)
              ≡ Some row
              → length (r ∷ rest) ≡ length (without number (r ∷ rest) n) + 1
          go (inl s) at =
              let gone : row_at number rest n ≡ None =
              row_at-listed number slots es n once.1
              ∙ ap (option_and_then (its_row number slots n))
              (ap (λ m. lookup (nat_eq m) es) (s.1 ∙ (its-is number slots e.0 e.1 r is).1)
              ∙ once.0) in
              let first : without number (r ∷ rest) n ≡ without number rest n =
              ap (λ b. cond (not b) (r ∷ without number rest n) (without number rest n)) s.0 in
              omega (arith, ap length (first ∙ without_absent number rest n gone))
          go (inr a) at =
              let first : without number (r ∷ rest) n ≡ r ∷ without number rest n =
              ap (λ b. cond (not b) (r ∷ without number rest n) (without number rest n)) a.0 in
              let less = ih (sym (ap (λ b. cond b (Some r) (row_at number rest n)) a.0) ∙ at) in
              omega (arith, ap length first, less)

  pub IsNumbered-removed : count_by is_some left + 1 ≡ count_by is_some slots
      → row_at number (rows_listed number slots numbers) n ≡ Some row
      → IsNumbered number left numbers
  IsNumbered-removed fewer at = record {
    numbered = λ k m e.
        h.numbered k m (sym (ap (option_map number) (kept k (other_slot number k m e))) ∙ e);
    distinct = h.distinct;
    counted =
        omega (
          arith,
          fewer,
          h.counted,
          ap length rows_listed-removed,
          one_fewer numbers h.distinct at,
        );
  }

-- what is left after a row is taken out of the slot of its number
module _ {R : Type 0} {number : R → ℕ} {slots : List (Option R)} {numbers : List (ℕ × ℕ)}
    (h : IsNumbered number slots numbers) (n slot : ℕ) (new : List (Option R)) where
  abbrev rows : List R
  rows = rows_listed number slots numbers

  pub taken : (o : Option R) → o ≡ row_in_slot slots slot
      → row_in_slot slots slot ≡ row_at number rows n → true ≡ is_some (row_at number rows n)
      → OnSome o (new ≡ set slots slot None)
      → OnSome o (count_by is_some new + 1 ≡ count_by is_some slots)
      → IsNumbered number new numbers × (rows_listed number new numbers ≡ without number rows n)
  taken None is at some gone fewer = absurd (true≢false (some ∙ ap is_some (sym at ∙ sym is)))
  taken (Some row) is at some gone fewer =
      let here = sym is in
      let found : row_at number rows n ≡ Some row = sym at ∙ here in
      let its = number_found number rows n row found in (
        subst (λ x. IsNumbered number x numbers) (sym gone)
            (IsNumbered-removed row n slot h here its
            (ap (λ x. count_by is_some x + 1) (sym gone) ∙ fewer) found),
        ap (λ x. rows_listed number x numbers) gone ∙ rows_listed-removed row n slot h here its,
      )
