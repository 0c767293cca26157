-- What is read off the rows of objects that are copied: their names and kinds, and who holds them.
use Rattle.std.proofs.Common.{◌≡◌, ℕ, ◌==◌, ◌<◌, inl, inr, Bool, true, false, cond, nat_eq, List}
use Rattle.std.proofs.Common.{[], ◌∷◌, Option, Some, None, map, refl, sym, ap, ◌∙◌, arith}
use Rattle.std.specs.Prelude.{option_map, unwrap_or}
use Rattle.std.specs.List.{AllByRecursion as Each}
use Rattle.std.proofs.lemmas.Bool.Decides.{nat_tests}
use Rattle.pt_types.specs.declared.operations.ObjectClass.{ObjectClass}
use Rattle.pt_types.specs.declared.operations.ObjectClass.TheVariants.{Mutex as MutexClass}
use Rattle.pt_types.specs.declared.operations.ObjectClass.TheVariants.{Rwlock as RwlockClass}
use Rattle.pt_types.specs.declared.outcome.Consistency.TheVariants.{Consistent}
use Rattle.pt_types.specs.declared.views.MutexView.{MutexView}
use Rattle.pt_types.specs.MutexTable.{is_some_number}
use Rattle.pt_types.specs.Names.{same_name}
use Rattle.pt_table.specs.declared.objects.ObjectRow.{ObjectRow}
use Rattle.pt_table.specs.ObjectRows.{object_at, object_value, row_with_name}
use Rattle.pt_model.specs.Records.{Object as Named_object}
use Rattle.pt_model.specs.Searches.{In}
use Rattle.pt_model.specs.declared.start.StartHolders.{StartHolders}
use Rattle.pt_model.specs.Histories.{History}
use Rattle.pt_model.specs.Objects.{kind_of, is_class, object_named as object_named_in}
use Rattle.pt_model.specs.Mutexes.{mutex_count, consistency}
use Rattle.pt_model.specs.Rwlocks.{is_writer}
use Rattle.pt_model.specs.StartRows.{object_row, object_called, count_in, consistency_in, writes_in}
use Rattle.pt_model.specs.Seals.{count_sealed, consistency_sealed, writes_sealed}
use Rattle.pt_model.specs.Steps.{Follows}
use Rattle.pt_model.proofs.Holding.{mutex_count-held, is_writer-held}
use Rattle.pt_model.proofs.Named.{Named-follows}
use Rattle.pt_records.specs.declared.objects.Object.{Object}
use Rattle.pt_records.specs.declared.objects.Object.TheVariants.{Mutex, Rwlock, Cond, Barrier}
use Rattle.pt_records.specs.Objects.{kind_in_row, Rising, AreObjectRows}
use Rattle.pt_state.specs.Copies.{holders_start, object_start}

module _ {A : Type 0} where
  object_rows : (rows : List (ObjectRow (Object A))) (o : ℕ)
      → object_row (map object_start rows) o ≡ option_map object_start (object_at rows o)
  object_rows [] o = refl
  object_rows (row ∷ rows) o = go (o == row.number) (object_rows rows o)
    where
      go : (b : Bool)
          → object_row (map object_start rows) o ≡ option_map object_start (object_at rows o)
          → cond b (Some (object_start row)) (object_row (map object_start rows) o)
          ≡ option_map object_start (cond b (Some row) (object_at rows o))
      go true ih = refl
      go false ih = ih

  -- a row's number isn't below it
  above-all : (m : ℕ) (xs : List (ObjectRow (Object A))) (x : ObjectRow (Object A))
      → Each (λ other. m < other.number) xs → In x xs → nat_eq x.number m ≡ false
  above-all m [] x e i = absurd i
  above-all m (y ∷ ys) x e (inl j) =
      let same : x.number ≡ y.number = ap (λ (z : ObjectRow (Object A)). z.number) j in
      let lt : m < y.number = e.0 in grind (arith, nat_tests)
  above-all m (y ∷ ys) x e (inr j) = above-all m ys x e.1 j

  -- a row is found by its number
  value-there : (rows : List (ObjectRow (Object A))) (n : ℕ) → Rising rows n
      → (row : ObjectRow (Object A)) → In row rows
      → object_value rows row.number ≡ Some row.value
  value-there [] n r row i = absurd i
  value-there (x ∷ rows) n r row (inl e) =
      let same : row.number ≡ x.number = ap (λ (y : ObjectRow (Object A)). y.number) e in
      let here : nat_eq row.number x.number ≡ true = grind (arith, nat_tests) in
      rw here (ap (λ (y : ObjectRow (Object A)). Some y.value) (sym e))
  value-there (x ∷ rows) n r row (inr i) =
      let apart : nat_eq row.number x.number ≡ false = above-all x.number rows row r.1 i in
      rw apart (value-there rows n r.2 row i)

  -- the object that a row's name means
  abbrev meant : ObjectRow (Object A) → Named_object
  meant row = record { number = row.number; kind = kind_in_row row.value }

  called-row : (rows : List (ObjectRow (Object A))) (n : List ℕ)
      → object_called (map object_start rows) n ≡ option_map meant (row_with_name rows n)
  called-row [] n = refl
  called-row (row ∷ rows) n = go (same_name n row.name) (called-row rows n)
    where
      go : (b : Bool)
          → object_called (map object_start rows) n ≡ option_map meant (row_with_name rows n)
          → cond b (Some (meant row)) (object_called (map object_start rows) n)
          ≡ option_map meant (cond b (Some row) (row_with_name rows n))
      go true ih = refl
      go false ih = ih

  named-in : (rows : List (ObjectRow (Object A))) (n : List ℕ) (row : ObjectRow (Object A))
      → row_with_name rows n ≡ Some row → In row rows
  named-in [] n row e = absurd cc
  named-in (x ∷ rows) n row e = go (same_name n x.name) e (named-in rows n row)
    where
      go : (b : Bool) → cond b (Some x) (row_with_name rows n) ≡ Some row
          → (row_with_name rows n ≡ Some row → In row rows) → In row (x ∷ rows)
      go true e ih = let same : row ≡ x = cc in inl same
      go false e ih = inr (ih e)

  module _ (h : History) (f : Follows h) (rows : List (ObjectRow (Object A)))
      (k : AreObjectRows h rows)
    where
      -- what a name means
      pub sealed-named : (n : List ℕ)
          → object_called (map object_start rows) n ≡ object_named_in h n
      sealed-named n = called-row rows n ∙ go (row_with_name rows n) refl
        where
          found : (row : ObjectRow (Object A)) → In row rows → (o : Option Named_object)
              → object_named_in h n ≡ o → Some row.number ≡ option_map (λ x. x.number) o
              → Some (meant row) ≡ o
          found row i None e same = absurd cc
          found row i (Some x) e same =
              let number : row.number ≡ x.number = cc in
              let made : kind_of h x.number ≡ Some x.kind = (Named-follows h f).made n x e in
              let kept : kind_of h row.number ≡ Some (kind_in_row row.value) =
              sym (k.look.kinds row.number)
              ∙ ap (option_map kind_in_row) (value-there rows _ k.rising row i) in
              let kinds : Some (kind_in_row row.value) ≡ Some x.kind =
              sym kept ∙ (ap (kind_of h) number ∙ made) in
              let kind : kind_in_row row.value ≡ x.kind = cc in
              ap (λ y. Some (record { number = y; kind = kind_in_row row.value })) number
              ∙ ap (λ y. Some (record { number = x.number; kind = y })) kind

          go : (o : Option (ObjectRow (Object A))) → row_with_name rows n ≡ o
              → option_map meant o ≡ object_named_in h n
          go None e = pick (object_named_in h n) refl
            where
              none : None ≡ option_map (λ (x : Named_object). x.number) (object_named_in h n)
              none = ap (option_map (λ (row : ObjectRow (Object A)). row.number)) (sym e)
                  ∙ k.names n

              pick : (o : Option Named_object) → object_named_in h n ≡ o → None ≡ o
              pick None q = refl
              pick (Some x) q =
                  let no : None ≡ Some x.number =
                  none ∙ ap (option_map (λ (y : Named_object). y.number)) q in absurd cc
          go (Some row) e =
              found row (named-in rows n row e) (object_named_in h n) refl
              (ap (option_map (λ (x : ObjectRow (Object A)). x.number)) (sym e) ∙ k.names n)

      module _ (m : ℕ) where
        kind_at : (o : Option (ObjectRow (Object A))) → object_at rows m ≡ o
            → kind_of h m ≡ option_map (λ row. kind_in_row row.value) o
        kind_at None e = sym (k.look.kinds m)
            ∙ ap (λ o. option_map kind_in_row (option_map (λ row. row.value) o)) e
        kind_at (Some row) e = sym (k.look.kinds m)
            ∙ ap (λ o. option_map kind_in_row (option_map (λ row. row.value) o)) e

        -- the objects that exist with their kinds
        pub sealed-kind :
            option_map (λ r. r.kind) (object_row (map object_start rows) m) ≡ kind_of h m
        sealed-kind =
            ap (option_map (λ r. r.kind)) (object_rows rows m) ∙ go (object_at rows m) refl
          where
            go : (o : Option (ObjectRow (Object A))) → object_at rows m ≡ o
                → option_map (λ r. r.kind) (option_map object_start o) ≡ kind_of h m
            go None e = sym (kind_at None e)
            go (Some row) e = sym (kind_at (Some row) e)

        -- what is read off the holders of an object of one class, and is of no other
        of-class : {R : Type 0} (class : ObjectClass) (none it : R) (read : StartHolders → R)
            → ((x : Object A) → object_value rows m ≡ Some x
            → read (holders_start x) ≡ cond (is_class (Some (kind_in_row x)) class) it none)
            → unwrap_or (option_map (λ r. read r.holders)
            (object_row (map object_start rows) m)) none
            ≡ cond (is_class (kind_of h m) class) it none
        of-class {R} class none it read same =
            ap (λ o. unwrap_or (option_map (λ r. read r.holders) o) none) (object_rows rows m)
            ∙ go (object_at rows m) refl
          where
            go : (o : Option (ObjectRow (Object A))) → object_at rows m ≡ o
                → unwrap_or (option_map (λ r. read r.holders) (option_map object_start o)) none
                ≡ cond (is_class (kind_of h m) class) it none
            go None e = sym (ap (λ o. cond (is_class o class) it none) (kind_at None e))
            go (Some row) e =
                same row.value (ap (option_map (λ row. row.value)) e)
                ∙ sym (ap (λ o. cond (is_class o class) it none) (kind_at (Some row) e))

        -- the locks of each client on a mutex, dead clients included
        pub sealed-mutex_count : (c : ℕ)
            → unwrap_or (option_map (λ r. count_in r.holders c)
            (object_row (map object_start rows) m)) 0 ≡ count_sealed h m c
        sealed-mutex_count c = of-class MutexClass 0 (mutex_count h m c)
            (λ holders. count_in holders c) same
          where
            same : (x : Object A) → object_value rows m ≡ Some x
                → count_in (holders_start x) c
                ≡ cond (is_class (Some (kind_in_row x)) MutexClass) (mutex_count h m c) 0
            same (Mutex s) e =
                ap (λ (v : MutexView). cond (is_some_number v.owner c) v.count 0)
                (k.look.mutexes m s e).0 ∙ mutex_count-held h f m c
            same (Rwlock r) e = refl
            same (Cond q) e = refl
            same (Barrier n) e = refl

        -- the consistency of a mutex
        pub sealed-consistency :
            unwrap_or (option_map (λ r. consistency_in r.holders)
            (object_row (map object_start rows) m)) Consistent ≡ consistency_sealed h m
        sealed-consistency =
            of-class MutexClass Consistent (consistency h m)
            (λ holders. consistency_in holders) same
          where
            same : (x : Object A) → object_value rows m ≡ Some x
                → consistency_in (holders_start x)
                ≡ cond (is_class (Some (kind_in_row x)) MutexClass) (consistency h m) Consistent
            same (Mutex s) e = ap (λ (v : MutexView). v.consistency) (k.look.mutexes m s e).0
            same (Rwlock r) e = refl
            same (Cond q) e = refl
            same (Barrier n) e = refl

        -- whether a client, dead or alive, has the write lock of a lock
        pub sealed-is_writer : (c : ℕ)
            → unwrap_or (option_map (λ o. writes_in o.holders c)
            (object_row (map object_start rows) m)) false ≡ writes_sealed h m c
        sealed-is_writer c =
            of-class RwlockClass false (is_writer h m c) (λ holders. writes_in holders c) same
          where
            same : (x : Object A) → object_value rows m ≡ Some x
                → writes_in (holders_start x) c
                ≡ cond (is_class (Some (kind_in_row x)) RwlockClass) (is_writer h m c) false
            same (Mutex s) e = refl
            same (Rwlock r) e =
                ap (λ o. is_some_number o c) (k.look.rwlocks m r e).writer ∙ is_writer-held h f m c
            same (Cond q) e = refl
            same (Barrier n) e = refl
