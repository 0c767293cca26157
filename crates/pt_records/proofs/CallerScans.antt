-- Rows of clients after the values in the first ones are rewritten, and after one more is.
use Rattle.std.proofs.Common.{◌≡◌, ℕ, zero, suc, ◌+◌, ◌≤◌, Bool, true, false, cond, nat_eq, List}
use Rattle.std.proofs.Common.{[], ◌∷◌, map, length, Option, Some, None, option_map, refl, sym, ap}
use Rattle.std.proofs.Common.{◌∙◌, arith}
use Rattle.std.proofs.lemmas.Bool.Decides.{nat_tests}
use Rattle.pt_table.specs.declared.clients.ClientRow.{ClientRow}
use Rattle.pt_table.specs.ClientRows.{client_at, client_value, with_client, nth_number, nth_value}
use Rattle.pt_records.specs.declared.clients.Caller.{Caller}
use Rattle.pt_records.specs.Callers.{HasDistinctNumbers}
use Rattle.pt_records.specs.Writes.{RewritesCallers, rewritten_nth}
use Rattle.pt_records.proofs.RowLemmas.{Apart, Apart-map, length-map, value-map}
use Rattle.pt_records.proofs.CallerWrites.{number_in, value_in, apart-once, once-apart}

module _ (g : Caller → Caller) where
  -- g changes the value in a row
  abbrev rewritten : ClientRow Caller → ClientRow Caller
  rewritten row = record row { value = g row.value }

  -- g has changed the values in the first rows
  abbrev pub rewritten_first : List (ClientRow Caller) → ℕ → List (ClientRow Caller)
  rewritten_first [] i = []
  rewritten_first (row ∷ rows) zero = row ∷ rows
  rewritten_first (row ∷ rows) (suc i) = rewritten row ∷ rewritten_first rows i

  pub first-none : (rows : List (ClientRow Caller)) → rewritten_first rows 0 ≡ rows
  first-none [] = refl
  first-none (row ∷ rows) = refl

  first-next : (rows : List (ClientRow Caller)) (i : ℕ)
      → rewritten_nth g (rewritten_first rows i) i ≡ rewritten_first rows (suc i)
  first-next [] i = refl
  first-next (row ∷ rows) zero = ap (λ rs. rewritten row ∷ rs) (sym (first-none rows))
  first-next (row ∷ rows) (suc i) = ap (λ rs. rewritten row ∷ rs) (first-next rows i)

  pub first-more : (rows : List (ClientRow Caller)) (i : ℕ)
      → rewritten_nth g (rewritten_first rows i) i ≡ rewritten_first rows (i + 1)
  first-more rows i =
      let next : suc i ≡ i + 1 = omega arith in
      first-next rows i ∙ ap (rewritten_first rows) next

  first-row : (rows : List (ClientRow Caller)) (i n : ℕ) → client_at rows n ≡ None
      → client_at (rewritten_first rows i) n ≡ None
  first-row [] i n e = refl
  first-row (row ∷ rows) zero n e = e
  first-row (row ∷ rows) (suc i) n e = go (first-row rows i n) (nat_eq n row.number) e
    where
      go : (client_at rows n ≡ None → client_at (rewritten_first rows i) n ≡ None) → (b : Bool)
          → cond b (Some row) (client_at rows n) ≡ None
          → cond b (Some (rewritten row)) (client_at (rewritten_first rows i) n) ≡ None
      go ih true e = cc
      go ih false e = ih e

  first-apart : (rows : List (ClientRow Caller)) (i : ℕ) → Apart number_in rows
      → Apart number_in (rewritten_first rows i)
  first-apart [] i a = tt
  first-apart (row ∷ rows) zero a = a
  first-apart (row ∷ rows) (suc i) a = (first-row rows i row.number a.0, first-apart rows i a.1)

  pub first-once : (rows : List (ClientRow Caller)) (i : ℕ) → HasDistinctNumbers rows
      → HasDistinctNumbers (rewritten_first rows i)
  first-once rows i once =
      once-apart (rewritten_first rows i) (first-apart rows i (apart-once rows once))

  -- g has changed the values in all rows
  first-all : (rows : List (ClientRow Caller)) (i : ℕ) → length rows ≤ i
      → rewritten_first rows i ≡ map rewritten rows
  first-all [] i e = refl
  first-all (row ∷ rows) zero e = absurd (omega (arith, e))
  first-all (row ∷ rows) (suc i) e =
      ap (λ rs. rewritten row ∷ rs) (first-all rows i (omega (arith, e)))

  rewrites-map : (rows : List (ClientRow Caller)) → RewritesCallers rows (map rewritten rows) g
  rewrites-map rows = record {
    look = value-map number_in value_in rewritten g (λ r. refl) (λ r. refl) rows;
    many = length-map number_in rewritten rows;
    once = λ once.
        once-apart (map rewritten rows)
        (Apart-map number_in rewritten (λ r. refl) rows (apart-once rows once));
  }

  pub rewrites-all : (rows : List (ClientRow Caller)) (i : ℕ) → length rows ≤ i
      → RewritesCallers rows (rewritten_first rows i) g
  rewrites-all rows i e = rw (first-all rows i e) (rewrites-map rows)

  -- rewriting the row at an index changes nothing if there is none, or g changes nothing there
  pub nth-none : (rows : List (ClientRow Caller)) (i : ℕ) → nth_value rows i ≡ None
      → rewritten_nth g rows i ≡ rows
  nth-none [] i e = refl
  nth-none (row ∷ rows) zero e = cc
  nth-none (row ∷ rows) (suc i) e = ap (λ rs. row ∷ rs) (nth-none rows i e)

  pub nth-same : (rows : List (ClientRow Caller)) (i : ℕ) (v : Caller) → nth_value rows i ≡ Some v
      → g v ≡ v → rewritten_nth g rows i ≡ rows
  nth-same [] i v e same = refl
  nth-same (row ∷ rows) zero v e same =
      let is : row.value ≡ v = cc in
      ap (λ w. record row { value = w } ∷ rows) (ap g is ∙ same ∙ sym is)
  nth-same (row ∷ rows) (suc i) v e same = ap (λ rs. row ∷ rs) (nth-same rows i v e same)

-- a write by a number that no row has changes nothing
pub with-none : (rows : List (ClientRow Caller)) (n : ℕ) (w : Caller) → client_at rows n ≡ None
    → with_client rows n w ≡ rows
with-none [] n w e = refl
with-none (row ∷ rows) n w e = go (with-none rows n w) (nat_eq n row.number) e
  where
    go : (client_at rows n ≡ None → with_client rows n w ≡ rows) → (b : Bool)
        → cond b (Some row) (client_at rows n) ≡ None
        → cond b (record row { value = w }) row ∷ with_client rows n w ≡ row ∷ rows
    go ih true e = cc
    go ih false e = ap (λ rs. row ∷ rs) (ih e)

-- a number that is at an index is found
nth-there : (rows : List (ClientRow Caller)) (i n : ℕ) → nth_number rows i ≡ Some n
    → client_at rows n ≡ None → ⊥
nth-there [] i n e none = cc
nth-there (row ∷ rows) zero n e none =
    let same : row.number ≡ n = cc in
    let own : nat_eq n row.number ≡ true = grind (arith, nat_tests) in
    absurd cc
nth-there (row ∷ rows) (suc i) n e none =
    go (nth-there rows i n e) (nat_eq n row.number) none
  where
    go : (client_at rows n ≡ None → ⊥) → (b : Bool)
        → cond b (Some row) (client_at rows n) ≡ None → ⊥
    go ih true e = cc
    go ih false e = ih e

-- so the number at an index after the first row differs from the first row's number
nth-apart : (row : ClientRow Caller) (rows : List (ClientRow Caller)) (i n : ℕ)
    → client_at rows row.number ≡ None → nth_number rows i ≡ Some n → nat_eq n row.number ≡ false
nth-apart row rows i n none e = go (nat_eq n row.number) refl
  where
    go : (b : Bool) → nat_eq n row.number ≡ b → b ≡ false
    go true t =
        let same : n ≡ row.number = grind (arith, nat_tests) in
        absurd (nth-there rows i n e (ap (client_at rows) same ∙ none))
    go false t = refl

-- what is found by the number at an index is the value at that index
pub nth-found : (rows : List (ClientRow Caller)) (i n : ℕ) → Apart number_in rows
    → nth_number rows i ≡ Some n → client_value rows n ≡ nth_value rows i
nth-found [] i n a e = cc
nth-found (row ∷ rows) zero n a e =
    let same : row.number ≡ n = cc in
    let own : nat_eq n row.number ≡ true = grind (arith, nat_tests) in
    ap (λ b. option_map value_in (cond b (Some row) (client_at rows n))) own
nth-found (row ∷ rows) (suc i) n a e =
    ap (λ b. option_map value_in (cond b (Some row) (client_at rows n)))
    (nth-apart row rows i n a.0 e) ∙ nth-found rows i n a.1 e

-- a write by the number at an index is a write at the index
nth-with : (g : Caller → Caller) (rows : List (ClientRow Caller)) (i n : ℕ) (v : Caller)
    → Apart number_in rows → nth_number rows i ≡ Some n → nth_value rows i ≡ Some v
    → with_client rows n (g v) ≡ rewritten_nth g rows i
nth-with g [] i n v a e is = cc
nth-with g (row ∷ rows) zero n v a e is =
    let same : n ≡ row.number = cc in
    let own : nat_eq n row.number ≡ true = grind (arith, nat_tests) in
    let what : v ≡ row.value = cc in
    ap (λ b. cond b (record row { value = g v }) row ∷ with_client rows n (g v)) own
    ∙ ap (λ rs. record row { value = g v } ∷ rs)
    (with-none rows n (g v) (ap (client_at rows) same ∙ a.0))
    ∙ ap (λ w. record row { value = g w } ∷ rows) what
nth-with g (row ∷ rows) (suc i) n v a e is =
    ap (λ b. cond b (record row { value = g v }) row ∷ with_client rows n (g v))
    (nth-apart row rows i n a.0 e)
    ∙ ap (λ rs. row ∷ rs) (nth-with g rows i n v a.1 e is)

-- the same for a change of the value that was found there, if g makes the same change
pub nth-written : (g f : Caller → Caller) (rows : List (ClientRow Caller)) (i n : ℕ) (v u : Caller)
    → HasDistinctNumbers rows → nth_number rows i ≡ Some n → nth_value rows i ≡ Some v
    → Some u ≡ client_value rows n → g v ≡ f v
    → with_client rows n (f u) ≡ rewritten_nth g rows i
nth-written g f rows i n v u once e is found same =
    let a = apart-once rows once in
    let there = found ∙ nth-found rows i n a e ∙ is in
    let what : u ≡ v = cc in
    ap (with_client rows n) (ap f what ∙ sym same) ∙ nth-with g rows i n v a e is

-- a client whose number is at an index has a row
pub nth-absent : {X : Type 0} (rows : List (ClientRow Caller)) (i n : ℕ) (v : Caller)
    → HasDistinctNumbers rows
    → nth_number rows i ≡ Some n → nth_value rows i ≡ Some v
    → ◌≡◌ {A = Option Caller} None (client_value rows n) → X
nth-absent rows i n v once e is none =
    let there = none ∙ nth-found rows i n (apart-once rows once) e ∙ is in
    absurd cc

-- what g returns, by its test
pub by-true : (b : Bool) (u v : Caller) → b ≡ true → cond b u v ≡ u
by-true b u v e = ap (λ b. cond b u v) e

pub by-false : (b : Bool) (u v : Caller) → b ≡ false → cond b u v ≡ v
by-false b u v e = ap (λ b. cond b u v) e
