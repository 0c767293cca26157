-- Rows of objects after one is written, added or removed: their names.
use Rattle.std.proofs.Common.{◌≡◌, ℕ, Bool, true, false, cond, not, nat_eq, List, [], ◌∷◌, ◌++◌}
use Rattle.std.proofs.Common.{map, Option, Some, None, option_map, refl, sym, ap, ◌∙◌, arith}
use Rattle.std.proofs.lemmas.Bool.Decides.{nat_tests}
use Rattle.pt_types.specs.MutexTable.{is_some_number}
use Rattle.pt_types.specs.Names.{same_name}
use Rattle.pt_table.specs.declared.objects.ObjectRow.{ObjectRow}
use Rattle.pt_table.specs.ObjectRows.{row_with_name, number_of_name, without_object}
use Rattle.pt_model.proofs.Named.{same_named, named_same}
use Rattle.pt_records.specs.declared.objects.Object.{Object}
use Rattle.pt_records.specs.Writes.{NamesOnce}

-- comparing two names gives the same in either order
pub same-turned : (m n : List ℕ) → same_name m n ≡ same_name n m
same-turned m n = go (same_name m n) refl (same_name n m) refl
  where
    go : (a : Bool) → same_name m n ≡ a → (b : Bool) → same_name n m ≡ b → a ≡ b
    go true s true t = refl
    go true s false t =
        let other = named_same n m (sym (same_named m n s)) in
        absurd cc
    go false s true t =
        let other = named_same m n (sym (same_named n m t)) in
        absurd cc
    go false s false t = refl

module _ {A : Type 0} where
  -- a change that leaves the names unchanged, seen at one name
  pub row-named-map : (f : ObjectRow (Object A) → ObjectRow (Object A))
      → ((r : ObjectRow (Object A)) → (f r).name ≡ r.name)
      → (rows : List (ObjectRow (Object A))) (n : List ℕ)
      → row_with_name (map f rows) n ≡ option_map f (row_with_name rows n)
  row-named-map f keeps [] n = refl
  row-named-map f keeps (r ∷ rows) n =
      ap (λ m. cond (same_name n m) (Some (f r)) (row_with_name (map f rows) n)) (keeps r)
      ∙ go (row-named-map f keeps rows n) (same_name n r.name)
    where
      go : row_with_name (map f rows) n ≡ option_map f (row_with_name rows n) → (b : Bool)
          → cond b (Some (f r)) (row_with_name (map f rows) n)
          ≡ option_map f (cond b (Some r) (row_with_name rows n))
      go ih true = refl
      go ih false = ih

  -- a change that leaves the numbers unchanged too
  pub number-map : (f : ObjectRow (Object A) → ObjectRow (Object A))
      → ((r : ObjectRow (Object A)) → (f r).name ≡ r.name)
      → ((r : ObjectRow (Object A)) → (f r).number ≡ r.number)
      → (rows : List (ObjectRow (Object A))) (n : List ℕ)
      → number_of_name (map f rows) n ≡ number_of_name rows n
  number-map f names keeps rows n =
      ap (option_map (λ row. row.number)) (row-named-map f names rows n)
      ∙ go (row_with_name rows n)
    where
      go : (o : Option (ObjectRow (Object A)))
          → option_map (λ row. row.number) (option_map f o) ≡ option_map (λ row. row.number) o
      go None = refl
      go (Some r) = ap Some (keeps r)

  pub names-map : (f : ObjectRow (Object A) → ObjectRow (Object A))
      → ((r : ObjectRow (Object A)) → (f r).name ≡ r.name)
      → (rows : List (ObjectRow (Object A))) → NamesOnce rows → NamesOnce (map f rows)
  names-map f keeps [] a = tt
  names-map f keeps (r ∷ rows) a = (
    ap (row_with_name (map f rows)) (keeps r)
        ∙ row-named-map f keeps rows r.name ∙ ap (option_map f) a.0,
    names-map f keeps rows a.1,
  )

  -- a row that is added last is found by its name if the name is new
  row-named-added : (rows : List (ObjectRow (Object A))) (row : ObjectRow (Object A)) (n : List ℕ)
      → row_with_name rows row.name ≡ None
      → row_with_name (rows ++ row ∷ []) n
      ≡ cond (same_name row.name n) (Some row) (row_with_name rows n)
  row-named-added [] row n new =
      ap (λ b. cond b (Some row) None) (same-turned n row.name)
  row-named-added (r ∷ rows) row n new =
      go (row-named-added rows row n) (same_name row.name r.name) refl new
    where
      other : (row_with_name rows row.name ≡ None → row_with_name (rows ++ row ∷ []) n
          ≡ cond (same_name row.name n) (Some row) (row_with_name rows n))
          → same_name row.name r.name ≡ false → row_with_name rows row.name ≡ None
          → (a : Bool) → same_name row.name n ≡ a → (b : Bool) → same_name n r.name ≡ b
          → cond b (Some r) (row_with_name (rows ++ row ∷ []) n)
          ≡ cond a (Some row) (cond b (Some r) (row_with_name rows n))
      other ih f new true s true t =
          let same = named_same row.name r.name (same_named row.name n s ∙ same_named n r.name t) in
          absurd cc
      other ih f new false s true t = refl
      other ih f new true s false t =
          ih new ∙ ap (λ b. cond b (Some row) (row_with_name rows n)) s
      other ih f new false s false t =
          ih new ∙ ap (λ b. cond b (Some row) (row_with_name rows n)) s

      go : (row_with_name rows row.name ≡ None → row_with_name (rows ++ row ∷ []) n
          ≡ cond (same_name row.name n) (Some row) (row_with_name rows n))
          → (b : Bool) → same_name row.name r.name ≡ b
          → cond b (Some r) (row_with_name rows row.name) ≡ None
          → cond (same_name n r.name) (Some r) (row_with_name (rows ++ row ∷ []) n)
          ≡ cond (same_name row.name n) (Some row) (cond (same_name n r.name) (Some r)
          (row_with_name rows n))
      go ih true t new = cc
      go ih false t new =
          other ih t new (same_name row.name n) refl (same_name n r.name) refl

  pub number-added : (rows : List (ObjectRow (Object A))) (row : ObjectRow (Object A)) (n : List ℕ)
      → row_with_name rows row.name ≡ None
      → number_of_name (rows ++ row ∷ []) n
      ≡ cond (same_name row.name n) (Some row.number) (number_of_name rows n)
  number-added rows row n new =
      ap (option_map (λ row. row.number)) (row-named-added rows row n new)
      ∙ go (same_name row.name n)
    where
      go : (b : Bool) → option_map (λ row. row.number) (cond b (Some row) (row_with_name rows n))
          ≡ cond b (Some row.number) (number_of_name rows n)
      go true = refl
      go false = refl

  pub names-added : (rows : List (ObjectRow (Object A))) (row : ObjectRow (Object A))
      → row_with_name rows row.name ≡ None → NamesOnce rows → NamesOnce (rows ++ row ∷ [])
  names-added [] row new a = (refl, tt)
  names-added (r ∷ rows) row new a =
      go (names-added rows row) (same_name row.name r.name) refl new
    where
      go : (row_with_name rows row.name ≡ None → NamesOnce rows → NamesOnce (rows ++ row ∷ []))
          → (b : Bool) → same_name row.name r.name ≡ b
          → cond b (Some r) (row_with_name rows row.name) ≡ None
          → (row_with_name (rows ++ row ∷ []) r.name ≡ None) × NamesOnce (rows ++ row ∷ [])
      go ih true t new = cc
      go ih false t new = (
        row-named-added rows row r.name new
            ∙ ap (λ b. cond b (Some row) (row_with_name rows r.name)) t ∙ a.0,
        ih new a.1,
      )

  -- a name that no row has is in no row after one is removed
  named-without : (rows : List (ObjectRow (Object A))) (o : ℕ) (n : List ℕ)
      → row_with_name rows n ≡ None → row_with_name (without_object rows o) n ≡ None
  named-without [] o n e = refl
  named-without (r ∷ rows) o n e =
      go (named-without rows o n) (same_name n r.name) refl e (nat_eq o r.number)
    where
      go : (row_with_name rows n ≡ None → row_with_name (without_object rows o) n ≡ None)
          → (a : Bool) → same_name n r.name ≡ a → cond a (Some r) (row_with_name rows n) ≡ None
          → (b : Bool)
          → row_with_name (cond (not b) (r ∷ without_object rows o) (without_object rows o)) n
          ≡ None
      go ih true s e b = cc
      go ih false s e true = ih e
      go ih false s e false =
          ap (λ b. cond b (Some r) (row_with_name (without_object rows o) n)) s ∙ ih e

  pub names-without : (rows : List (ObjectRow (Object A))) (o : ℕ) → NamesOnce rows
      → NamesOnce (without_object rows o)
  names-without [] o a = tt
  names-without (r ∷ rows) o a = go (names-without rows o a.1) (nat_eq o r.number)
    where
      go : NamesOnce (without_object rows o) → (b : Bool)
          → NamesOnce (cond (not b) (r ∷ without_object rows o) (without_object rows o))
      go ih true = ih
      go ih false = (named-without rows o r.name a.0, ih)

  -- the name of the object that is removed is free, and the others find what they did
  pub number-without : (rows : List (ObjectRow (Object A))) (o : ℕ) (n : List ℕ) → NamesOnce rows
      → number_of_name (without_object rows o) n
      ≡ cond (is_some_number (number_of_name rows n) o) None (number_of_name rows n)
  number-without [] o n a = refl
  number-without (r ∷ rows) o n a =
      go (number-without rows o n a.1) (nat_eq o r.number) refl (same_name n r.name) refl
    where
      go : number_of_name (without_object rows o) n
          ≡ cond (is_some_number (number_of_name rows n) o) None (number_of_name rows n)
          → (a : Bool) → nat_eq o r.number ≡ a → (b : Bool) → same_name n r.name ≡ b
          → number_of_name (cond (not a) (r ∷ without_object rows o) (without_object rows o)) n
          ≡ cond (is_some_number (option_map (λ row. row.number) (cond b (Some r)
          (row_with_name rows n)))
          o) None (option_map (λ row. row.number) (cond b (Some r) (row_with_name rows n)))
      go ih true s true t =
          let none = ap (row_with_name rows) (same_named n r.name t) ∙ a.0 in
          let own : nat_eq r.number o ≡ true = grind (arith, nat_tests) in
          ap (option_map (λ row. row.number)) (named-without rows o n none)
          ∙ sym (ap (λ b. cond b None (Some r.number)) own)
      go ih true s false t = ih
      go ih false s true t =
          let other : nat_eq r.number o ≡ false = grind (arith, nat_tests) in
          ap (λ b. option_map (λ row. row.number) (cond b (Some r)
          (row_with_name (without_object rows o) n))) t
          ∙ sym (ap (λ b. cond b None (Some r.number)) other)
      go ih false s false t =
          ap (λ b. option_map (λ row. row.number) (cond b (Some r)
          (row_with_name (without_object rows o) n))) t ∙ ih
