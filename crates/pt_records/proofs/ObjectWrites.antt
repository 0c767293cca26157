-- Rows of objects after one is written, added or removed: their numbers.
use Rattle.std.proofs.Common.{◌≡◌, ℕ, ◌+◌, ◌<◌, Bool, true, false, cond, not, nat_eq, List, [], ◌∷◌}
use Rattle.std.proofs.Common.{◌++◌, map, Some, None, refl, ap, ◌∙◌, arith}
use Rattle.std.specs.List.{AllByRecursion as Each}
use Rattle.std.proofs.lemmas.Bool.Decides.{nat_tests}
use Rattle.pt_table.specs.declared.objects.ObjectRow.{ObjectRow}
use Rattle.pt_table.specs.ObjectRows.{object_at, without_object}
use Rattle.pt_model.proofs.Lists.{Each-append, Each-filter}
use Rattle.pt_records.specs.declared.objects.Object.{Object}
use Rattle.pt_records.specs.Objects.{Rising}
use Rattle.pt_records.proofs.RowLemmas.{Apart}

module _ {A : Type 0} where
  abbrev pub number_in : ObjectRow (Object A) → ℕ
  number_in row = row.number

  abbrev pub value_in : ObjectRow (Object A) → Object A
  value_in row = row.value

  -- a number below those of all rows is in no row
  below-none : (rows : List (ObjectRow (Object A))) (k : ℕ)
      → Each (λ other. k < other.number) rows → object_at rows k ≡ None
  below-none [] k a = refl
  below-none (row ∷ rows) k a =
      let apart : nat_eq k row.number ≡ false = grind (arith, nat_tests, a.0) in
      ap (λ b. cond b (Some row) (object_at rows k)) apart ∙ below-none rows k a.1

  -- rising numbers occur once each
  pub rising-apart : (rows : List (ObjectRow (Object A))) (k : ℕ) → Rising rows k
      → Apart number_in rows
  rising-apart [] k a = tt
  rising-apart (row ∷ rows) k a = (below-none rows row.number a.1, rising-apart rows k a.2)

  -- a number above those of all rows is in no row
  pub rising-new : (rows : List (ObjectRow (Object A))) (k : ℕ) → Rising rows k
      → object_at rows k ≡ None
  rising-new [] k a = refl
  rising-new (row ∷ rows) k a =
      let apart : nat_eq k row.number ≡ false = grind (arith, nat_tests, a.0) in
      ap (λ b. cond b (Some row) (object_at rows k)) apart ∙ rising-new rows k a.2

  Each-map : (f : ObjectRow (Object A) → ObjectRow (Object A))
      → ((r : ObjectRow (Object A)) → (f r).number ≡ r.number) → (k : ℕ)
      → (rows : List (ObjectRow (Object A))) → Each (λ other. k < other.number) rows
      → Each (λ other. k < other.number) (map f rows)
  Each-map f keeps k [] a = tt
  Each-map f keeps k (row ∷ rows) a =
      (omega (arith, a.0, keeps row), Each-map f keeps k rows a.1)

  -- a change that leaves the numbers unchanged leaves them rising
  pub rising-map : (f : ObjectRow (Object A) → ObjectRow (Object A))
      → ((r : ObjectRow (Object A)) → (f r).number ≡ r.number) → (k : ℕ)
      → (rows : List (ObjectRow (Object A))) → Rising rows k → Rising (map f rows) k
  rising-map f keeps k [] a = tt
  rising-map f keeps k (row ∷ rows) a = (
    omega (arith, a.0, keeps row),
    rw (keeps row) (Each-map f keeps row.number rows a.1),
    rising-map f keeps k rows a.2,
  )

  -- a row that is added last has the greatest number
  pub rising-added : (rows : List (ObjectRow (Object A))) (row : ObjectRow (Object A))
      → Rising rows row.number → Rising (rows ++ row ∷ []) (row.number + 1)
  rising-added [] row a = (omega arith, tt, tt)
  rising-added (r ∷ rows) row a = (
    omega (arith, a.0),
    Each-append (λ other. r.number < other.number) rows (row ∷ []) a.1 (a.0, tt),
    rising-added rows row a.2,
  )

  pub rising-without : (rows : List (ObjectRow (Object A))) (o k : ℕ) → Rising rows k
      → Rising (without_object rows o) k
  rising-without [] o k a = tt
  rising-without (row ∷ rows) o k a = go (rising-without rows o k a.2) (nat_eq o row.number)
    where
      go : Rising (without_object rows o) k → (b : Bool)
          → Rising (cond (not b) (row ∷ without_object rows o) (without_object rows o)) k
      go ih true = ih
      go ih false = (
        a.0,
        Each-filter (λ other. row.number < other.number) (λ r. not (nat_eq o r.number)) rows a.1,
        ih,
      )
