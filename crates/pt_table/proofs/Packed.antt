-- Numbers whose rows are gone: they are dropped, or skipped to find the row at an index.
use Rattle.std.proofs.Common.{◌≡◌, ◌≤◌, ◌<◌, ◌∙◌, ℕ, zero, suc, Bool, true, false, cond, nat_eq}
use Rattle.std.proofs.Common.{List, [], ◌∷◌, length, drop, filter, refl, ap, sym, arith, Option}
use Rattle.std.proofs.Common.{None, Some, is_some, inl, inr, ◌-◌, ◌≢◌, true≢false}
use Rattle.std.specs.Prelude.{slice_get}
use Rattle.std.specs.List.{cons_option}
use Rattle.std.specs.Option.{option_map, option_and_then}
use Rattle.std.specs.Map.{lookup, remove_entry}
use Rattle.std.proofs.lemmas.Bool.Decides.{eqb_tells}
use Rattle.pt_table.specs.Slots.{row_in_slot, number_in_slot, its_row, rows_listed, Distinct}
use Rattle.pt_table.specs.Slots.{IsNumbered}
use Rattle.pt_table.proofs.Lookups.{some_inj, lookup_none-parts, none_of, lookup-remove_other}
use Rattle.pt_table.proofs.Lookups.{Distinct-remove}
use Rattle.pt_table.proofs.Listed.{Tells, its-none, its-there, row_of_number}

pub steps-down : (m n : ℕ) → n ≡ m - 1 → m ≢ 0 → suc n ≡ m
steps-down m n e some = omega arith

-- whether there is a row, as it was looked for
pub was_there : {X R : Type 0} (f : X → R) (found : Option X) (o : Option R) (b : Bool)
    → option_map f found ≡ o → b ≡ is_some found → is_some o ≡ b
was_there f None o b e is = sym (ap is_some e) ∙ sym is
was_there f (Some x) o b e is = sym (ap is_some e) ∙ sym is

module _ {R : Type 0} (number : R → ℕ) (slots : List (Option R)) where
  -- whether an entry leads to a row
  abbrev leads : ℕ × ℕ → Bool
  leads e = is_some (its_row number slots e.0 e.1)

  pub rows_packed : (es : List (ℕ × ℕ))
      → rows_listed number slots (filter leads es) ≡ rows_listed number slots es
  rows_packed [] = refl
  rows_packed (e ∷ es) = by (rows_packed es) (its_row number slots e.0 e.1) refl
    where
      by : rows_listed number slots (filter leads es) ≡ rows_listed number slots es
          → (o : Option R) → its_row number slots e.0 e.1 ≡ o
          → rows_listed number slots (cond (is_some o) (e ∷ filter leads es) (filter leads es))
          ≡ cons_option o (rows_listed number slots es)
      by ih None is = ih
      by ih (Some r) is =
          ap (λ o. cons_option o (rows_listed number slots (filter leads es))) is
          ∙ ap (λ rs. r ∷ rs) ih

  lookup_packed : (es : List (ℕ × ℕ)) (n k : ℕ) (row : R) → its_row number slots n k ≡ Some row
      → lookup (nat_eq n) es ≡ Some k → lookup (nat_eq n) (filter leads es) ≡ Some k
  lookup_packed [] n k row is at = at
  lookup_packed (e ∷ es) n k row is at =
      by (lookup_packed es n k row is) (eqb_tells n e.0) at
    where
      some : List (ℕ × ℕ)
      some = filter leads es

      by : (lookup (nat_eq n) es ≡ Some k → lookup (nat_eq n) some ≡ Some k) → Tells n e.0
          → cond (nat_eq n e.0) (Some e.1) (lookup (nat_eq n) es) ≡ Some k
          → lookup (nat_eq n) (cond (leads e) (e ∷ some) some) ≡ Some k
      by ih (inl s) at =
          let slot : e.1 ≡ k =
          some_inj (sym (ap (λ b. cond b (Some e.1) (lookup (nat_eq n) es)) s.0) ∙ at) in
          let there : leads e ≡ true =
          ap is_some (ap (λ m. its_row number slots m e.1) (sym s.1)
          ∙ ap (its_row number slots n) slot ∙ is) in
          ap (λ b. lookup (nat_eq n) (cond b (e ∷ some) some)) there
          ∙ ap (λ b. cond b (Some e.1) (lookup (nat_eq n) some)) s.0 ∙ ap Some slot
      by ih (inr a) at =
          go (leads e) (ih (sym (ap (λ b. cond b (Some e.1) (lookup (nat_eq n) es)) a.0) ∙ at))
        where
          go : (b : Bool) → lookup (nat_eq n) some ≡ Some k
              → lookup (nat_eq n) (cond b (e ∷ some) some) ≡ Some k
          go true found = ap (λ b. cond b (Some e.1) (lookup (nat_eq n) some)) a.0 ∙ found
          go false found = found

  none_packed : (n : ℕ) (es : List (ℕ × ℕ)) → lookup (nat_eq n) es ≡ None
      → lookup (nat_eq n) (filter leads es) ≡ None
  none_packed n [] none = refl
  none_packed n (e ∷ es) none =
      let parts = lookup_none-parts (nat_eq n) e es none in
      go (leads e) parts.0 (none_packed n es parts.1)
    where
      some : List (ℕ × ℕ)
      some = filter leads es

      go : (b : Bool) → nat_eq n e.0 ≡ false → lookup (nat_eq n) some ≡ None
          → lookup (nat_eq n) (cond b (e ∷ some) some) ≡ None
      go true apart absent = ap (λ b. cond b (Some e.1) (lookup (nat_eq n) some)) apart ∙ absent
      go false apart absent = absent

  distinct_packed : (es : List (ℕ × ℕ)) → Distinct es → Distinct (filter leads es)
  distinct_packed [] once = tt
  distinct_packed (e ∷ es) once = go (distinct_packed es once.1) (leads e)
    where
      go : Distinct (filter leads es) → (b : Bool)
          → Distinct (cond b (e ∷ filter leads es) (filter leads es))
      go ih true = (none_packed e.0 es once.0, ih)
      go ih false = ih

  pub IsNumbered-packed : (es : List (ℕ × ℕ)) → IsNumbered number slots es
      → IsNumbered number slots (filter leads es)
  IsNumbered-packed es h = record {
    numbered = λ k n e.
        let r = row_of_number number (row_in_slot slots k) n e in
        lookup_packed es n k r.0 (its-there number slots n k r.0 r.1 r.2) (h.numbered k n e);
    distinct = distinct_packed es h.distinct;
    counted = h.counted ∙ sym (ap length (rows_packed es));
  }

  -- a number that no row has is dropped
  pub rows_without : (n : ℕ) → ((k : ℕ) → number_in_slot number slots k ≢ Some n) → (es : List (ℕ
      × ℕ))
      → rows_listed number slots (remove_entry (nat_eq n) es) ≡ rows_listed number slots es
  rows_without n free [] = refl
  rows_without n free (e ∷ es) = by (rows_without n free es) (eqb_tells n e.0)
    where
      left : List (ℕ × ℕ)
      left = remove_entry (nat_eq n) es

      by : rows_listed number slots left ≡ rows_listed number slots es → Tells n e.0
          → rows_listed number slots (cond (nat_eq n e.0) es (e ∷ left))
          ≡ rows_listed number slots (e ∷ es)
      by ih (inl s) =
          ap (λ b. rows_listed number slots (cond b es (e ∷ left))) s.0
          ∙ sym (ap (λ o. cons_option o (rows_listed number slots es))
          (its-none number slots e.0 e.1 (λ there. free e.1 (there ∙ ap Some (sym s.1)))))
      by ih (inr a) =
          ap (λ b. rows_listed number slots (cond b es (e ∷ left))) a.0
          ∙ ap (cons_option (its_row number slots e.0 e.1)) ih

  pub IsNumbered-without : (n : ℕ) → ((k : ℕ) → number_in_slot number slots k ≢ Some n)
      → (es : List (ℕ × ℕ)) → IsNumbered number slots es
      → IsNumbered number slots (remove_entry (nat_eq n) es)
  IsNumbered-without n free es h = record {
    numbered = λ k m e.
        lookup-remove_other m n (apart k m e (eqb_tells m n)) es ∙ h.numbered k m e;
    distinct = Distinct-remove (nat_eq n) es h.distinct;
    counted = h.counted ∙ sym (ap length (rows_without n free es));
  }
    where
      apart : (k m : ℕ) → number_in_slot number slots k ≡ Some m → Tells m n → nat_eq m n ≡ false
      apart k m e (inl s) = absurd (free k (e ∙ ap Some s.1))
      apart k m e (inr a) = a.0

  few : (es : List (ℕ × ℕ)) → length (rows_listed number slots es) ≤ length es
  few [] = omega arith
  few (e ∷ es) = by (its_row number slots e.0 e.1) (few es)
    where
      by : (o : Option R) → length (rows_listed number slots es) ≤ length es
          → length (cons_option o (rows_listed number slots es)) ≤ length (e ∷ es)
      by None less = omega (arith, less)
      by (Some r) less = omega (arith, less)

  -- the row that an index leads to, if no entry is passed over
  abbrev pub row_of : Option (ℕ × ℕ) → Option R
  row_of entry = option_and_then (λ (e : ℕ × ℕ). its_row number slots e.0 e.1) entry

  pub nth-listed : (es : List (ℕ × ℕ)) → length es ≤ length (rows_listed number slots es) → (i : ℕ)
      → row_of (slice_get es i) ≡ slice_get (rows_listed number slots es) i
  nth-listed [] all i = refl
  nth-listed (e ∷ es) all i =
      by (nth-listed es) (its_row number slots e.0 e.1) refl i all (few es)
    where
      rest : List R
      rest = rows_listed number slots es

      by : (length es ≤ length rest → (i : ℕ) → row_of (slice_get es i) ≡ slice_get rest i)
          → (o : Option R) → its_row number slots e.0 e.1 ≡ o → (i : ℕ)
          → length (e ∷ es) ≤ length (cons_option o rest) → length rest ≤ length es
          → row_of (slice_get (e ∷ es) i) ≡ slice_get (cons_option o rest) i
      by ih None is i all less = absurd (omega (arith, all, less))
      by ih (Some r) is zero all less = is
      by ih (Some r) is (suc i) all less = ih (omega (arith, all)) i

  -- the rows from an entry on
  rows_at : (i : ℕ) (es : List (ℕ × ℕ)) → i < length es
      → rows_listed number slots (drop i es)
      ≡ cons_option (row_of (slice_get es i)) (rows_listed number slots (drop (suc i) es))
  rows_at i [] within = absurd (omega (arith, within))
  rows_at zero (e ∷ es) within = refl
  rows_at (suc i) (e ∷ es) within = rows_at i es (omega (arith, within))

  -- an entry with a row is passed, or one with none
  pub passed : (i b : ℕ) (es : List (ℕ × ℕ)) → i < length es
      → is_some (row_of (slice_get es i)) ≡ true
      → slice_get (rows_listed number slots (drop (suc i) es)) b
      ≡ slice_get (rows_listed number slots (drop i es)) (suc b)
  passed i b es within is =
      by (row_of (slice_get es i)) is ∙ sym (ap (λ rs. slice_get rs (suc b)) (rows_at i es within))
    where
      by : (o : Option R) → is_some o ≡ true
          → slice_get (rows_listed number slots (drop (suc i) es)) b
          ≡ slice_get (cons_option o (rows_listed number slots (drop (suc i) es))) (suc b)
      by None is = absurd (true≢false (sym is))
      by (Some r) is = refl

  pub skipped : (i b : ℕ) (es : List (ℕ × ℕ)) → i < length es
      → is_some (row_of (slice_get es i)) ≡ false
      → slice_get (rows_listed number slots (drop (suc i) es)) b
      ≡ slice_get (rows_listed number slots (drop i es)) b
  skipped i b es within is =
      ap (λ o. slice_get (cons_option o (rows_listed number slots (drop (suc i) es))) b)
      (sym (none_of (row_of (slice_get es i)) is))
      ∙ sym (ap (λ rs. slice_get rs b) (rows_at i es within))

  pub first : (i : ℕ) (es : List (ℕ × ℕ)) → i < length es
      → is_some (row_of (slice_get es i)) ≡ true
      → row_of (slice_get es i) ≡ slice_get (rows_listed number slots (drop i es)) 0
  first i es within is =
      by (row_of (slice_get es i)) is ∙ sym (ap (λ rs. slice_get rs 0) (rows_at i es within))
    where
      by : (o : Option R) → is_some o ≡ true
          → o ≡ slice_get (cons_option o (rows_listed number slots (drop (suc i) es))) 0
      by None is = absurd (true≢false (sym is))
      by (Some r) is = refl

  -- past the end there is neither an entry nor a row
  pub none-after : (i b : ℕ) (es : List (ℕ × ℕ)) → length es ≤ i
      → row_of (slice_get es (length es)) ≡ slice_get (rows_listed number slots (drop i es)) b
  none-after zero b [] past = refl
  none-after (suc i) b [] past = refl
  none-after zero b (e ∷ es) past = absurd (omega (arith, past))
  none-after (suc i) b (e ∷ es) past = none-after i b es (omega (arith, past))
