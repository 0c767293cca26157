-- The rows that are listed: a look-up by number goes through the listed slots.
use Rattle.std.proofs.Common.{◌≡◌, ◌<◌, ◌⊎◌, ◌≢◌, ◌∙◌, ℕ, zero, suc, cond, nat_eq, true, false}
use Rattle.std.proofs.Common.{List, [], ◌∷◌, length, refl, ap, sym, arith, Option, None}
use Rattle.std.proofs.Common.{Bool, Some, is_some, inl, inr}
use Rattle.std.specs.List.{cons_option}
use Rattle.std.specs.Option.{option_map, option_and_then}
use Rattle.std.specs.Map.{lookup}
use Rattle.std.proofs.lemmas.Bool.{eq-eqb}
use Rattle.std.proofs.lemmas.Bool.Decides.{eqb_tells}
use Rattle.pt_table.specs.Rows.{row_at}
use Rattle.pt_table.specs.Slots.{row_in_slot, number_in_slot, with_number, its_row}
use Rattle.pt_table.specs.Slots.{rows_listed, Distinct, IsNumbered}
use Rattle.pt_table.proofs.Lookups.{some_inj, none_some}

-- whether two numbers are the same
abbrev pub Tells : ℕ → ℕ → Type 0
Tells m n = ((nat_eq m n ≡ true) × (m ≡ n)) ⊎ ((nat_eq m n ≡ false) × (m ≢ n))

-- a slot with a row is within the slots
pub slot_within : {R : Type 0} (slots : List (Option R)) (slot : ℕ) (row : R)
    → row_in_slot slots slot ≡ Some row → slot < length slots
slot_within [] slot row e = cc
slot_within (o ∷ slots) zero row e = omega arith
slot_within (o ∷ slots) (suc slot) row e = omega (arith, slot_within slots slot row e)

-- a slot with a number has a row
pub row_of_number : {R : Type 0} (number : R → ℕ) (o : Option R) (n : ℕ)
    → option_map number o ≡ Some n → (row : R) × (o ≡ Some row) × (number row ≡ n)
row_of_number number None n h = cc
row_of_number number (Some row) n h = (row, refl, cc)

module _ {R : Type 0} (number : R → ℕ) where
  -- the row that is found has the number
  pub number_found : (rows : List R) (n : ℕ) (row : R) → row_at number rows n ≡ Some row
      → number row ≡ n
  number_found [] n row e = absurd (none_some e)
  number_found (r ∷ rows) n row e = by (number_found rows n row) (eqb_tells n (number r))
    where
      by : (row_at number rows n ≡ Some row → number row ≡ n) → Tells n (number r)
          → number row ≡ n
      by ih (inl s) =
          let same : r ≡ row =
          some_inj (sym (ap (λ b. cond b (Some r) (row_at number rows n)) s.0) ∙ e) in
          sym (s.1 ∙ ap number same)
      by ih (inr a) = ih (sym (ap (λ b. cond b (Some r) (row_at number rows n)) a.0) ∙ e)

  module _ (slots : List (Option R)) where
    pub its-there : (n s : ℕ) (row : R) → row_in_slot slots s ≡ Some row → number row ≡ n
        → its_row number slots n s ≡ Some row
    its-there n s row here own =
        ap (option_and_then (with_number number n)) here
        ∙ ap (λ b. cond b (Some row) None) (eq-eqb n (number row) (sym own))

    pub its-none : (n s : ℕ) → number_in_slot number slots s ≢ Some n → its_row number slots n s
        ≡ None
    its-none n s not = by (row_in_slot slots s) refl
      where
        by : (o : Option R) → row_in_slot slots s ≡ o
            → option_and_then (with_number number n) o ≡ None
        by None e = refl
        by (Some row) e = go (eqb_tells n (number row))
          where
            go : Tells n (number row) → with_number number n row ≡ None
            go (inl s) = absurd (not (ap (option_map number) e ∙ ap Some (sym s.1)))
            go (inr a) = ap (λ b. cond b (Some row) None) a.0

    pub its-is : (n s : ℕ) (row : R) → its_row number slots n s ≡ Some row
        → (row_in_slot slots s ≡ Some row) × (number row ≡ n)
    its-is n s row is = by (row_in_slot slots s) refl is
      where
        by : (o : Option R) → row_in_slot slots s ≡ o
            → option_and_then (with_number number n) o ≡ Some row
            → (row_in_slot slots s ≡ Some row) × (number row ≡ n)
        by None e is = absurd (none_some is)
        by (Some r) e is = go (eqb_tells n (number r))
          where
            go : Tells n (number r) → (row_in_slot slots s ≡ Some row) × (number row ≡ n)
            go (inl t) =
                let same : r ≡ row =
                some_inj (sym (ap (λ b. cond b (Some r) None) t.0) ∙ is) in
                (e ∙ ap Some same, sym (t.1 ∙ ap number same))
            go (inr a) = absurd (none_some (sym (ap (λ b. cond b (Some r) None) a.0) ∙ is))

    -- the row of a number is the one in the slot to which the number leads
    pub row_at-listed : (es : List (ℕ × ℕ)) (n : ℕ) → Distinct es
        → row_at number (rows_listed number slots es) n
        ≡ option_and_then (its_row number slots n) (lookup (nat_eq n) es)
    row_at-listed [] n once = refl
    row_at-listed (e ∷ es) n once =
        by (row_at-listed es n once.1) (its_row number slots e.0 e.1) refl (eqb_tells n e.0)
      where
        rest : Option R
        rest = row_at number (rows_listed number slots es) n

        later : Option R
        later = option_and_then (its_row number slots n) (lookup (nat_eq n) es)

        at : option_and_then (its_row number slots n) (lookup (nat_eq n) (e ∷ es))
            ≡ cond (nat_eq n e.0) (its_row number slots n e.1) later
        at = go (nat_eq n e.0)
          where
            go : (b : Bool) → option_and_then (its_row number slots n)
                (cond b (Some e.1) (lookup (nat_eq n) es))
                ≡ cond b (its_row number slots n e.1) later
            go true = refl
            go false = refl

        by : rest ≡ later → (o : Option R) → its_row number slots e.0 e.1 ≡ o → Tells n e.0
            → row_at number (cons_option o (rows_listed number slots es)) n
            ≡ option_and_then (its_row number slots n) (lookup (nat_eq n) (e ∷ es))
        by ih None is (inl s) =
            ih
            ∙ ap (option_and_then (its_row number slots n))
            (ap (λ k. lookup (nat_eq k) es) s.1 ∙ once.0)
            ∙ sym (at ∙ ap (λ b. cond b (its_row number slots n e.1) later) s.0
            ∙ ap (λ k. its_row number slots k e.1) s.1 ∙ is)
        by ih None is (inr a) =
            ih ∙ sym (at ∙ ap (λ b. cond b (its_row number slots n e.1) later) a.0)
        by ih (Some r) is (inl s) =
            ap (λ k. cond (nat_eq n k) (Some r) rest) (its-is e.0 e.1 r is).1
            ∙ ap (λ b. cond b (Some r) rest) s.0
            ∙ sym (at ∙ ap (λ b. cond b (its_row number slots n e.1) later) s.0
            ∙ ap (λ k. its_row number slots k e.1) s.1 ∙ is)
        by ih (Some r) is (inr a) =
            ap (λ k. cond (nat_eq n k) (Some r) rest) (its-is e.0 e.1 r is).1
            ∙ ap (λ b. cond b (Some r) rest) a.0
            ∙ ih ∙ sym (at ∙ ap (λ b. cond b (its_row number slots n e.1) later) a.0)

module _ {R : Type 0} {number : R → ℕ} {slots : List (Option R)} {numbers : List (ℕ × ℕ)}
    (h : IsNumbered number slots numbers) where
  abbrev rows : List R
  rows = rows_listed number slots numbers

  -- a row in a slot is the row of its number
  pub row_there : (n slot : ℕ) (row : R) → row_in_slot slots slot ≡ Some row → number row ≡ n
      → row_at number rows n ≡ Some row
  row_there n slot row is own =
      row_at-listed number slots numbers n h.distinct
      ∙ ap (option_and_then (its_row number slots n))
      (h.numbered slot n (ap (option_map number) is ∙ ap Some own))
      ∙ its-there number slots n slot row is own

  -- a number with no row leads to none, and one with a row leads to it
  pub by_lookup : (n : ℕ) (slot : Option ℕ) → slot ≡ lookup (nat_eq n) numbers
      → option_and_then (its_row number slots n) slot ≡ row_at number rows n
  by_lookup n slot e =
      ap (option_and_then (its_row number slots n)) e
      ∙ sym (row_at-listed number slots numbers n h.distinct)

  -- no slot has a number that has no row
  pub number_free : (n : ℕ) → row_at number rows n ≡ None → (slot : ℕ)
      → number_in_slot number slots slot ≢ Some n
  number_free n free slot e = by (row_in_slot slots slot) refl e
    where
      by : (o : Option R) → row_in_slot slots slot ≡ o → option_map number o ≡ Some n → ⊥
      by None is e = none_some e
      by (Some row) is e =
          none_some (sym free ∙ row_there n slot row is (some_inj e))

  -- two slots with rows of one number are the same
  pub same_slot : (n slot other : ℕ) → number_in_slot number slots slot ≡ Some n
      → number_in_slot number slots other ≡ Some n → slot ≡ other
  same_slot n slot other e f = some_inj (sym (h.numbered slot n e) ∙ h.numbered other n f)

  -- a slot that has the row of a number
  pub right_slot : (n slot : ℕ) (row : R) → its_row number slots n slot ≡ Some row
      → (row_in_slot slots slot ≡ row_at number rows n)
      × (true ≡ is_some (row_at number rows n))
  right_slot n slot row is =
      let i = its-is number slots n slot row is in
      let at = row_there n slot row i.0 i.1 in
      (i.0 ∙ sym at, sym (ap is_some at))

  -- a number that leads to no row
  pub no_slot : (n : ℕ) (slot : Option ℕ) → slot ≡ lookup (nat_eq n) numbers
      → option_and_then (its_row number slots n) slot ≡ None
      → (None ≡ row_at number rows n) × (false ≡ is_some (row_at number rows n))
  no_slot n slot e none =
      let at = sym none ∙ by_lookup n slot e in
      (at, ap is_some at)
