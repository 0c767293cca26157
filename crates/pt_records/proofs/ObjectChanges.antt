-- Rows of objects after one is written, added or removed.
use Rattle.std.proofs.Common.{◌≡◌, ℕ, ◌||◌, Bool, true, false, cond, nat_eq, List, Option, Some}
use Rattle.std.proofs.Common.{None, is_some, option_map, Result, Ok, Err, OnErr, refl, sym, ap, ◌∙◌}
use Rattle.pt_mutex.specs.MutexState.{MutexState}
use Rattle.pt_rwlock.specs.RwlockState.{RwlockState}
use Rattle.pt_table.specs.declared.objects.ObjectRow.{ObjectRow}
use Rattle.pt_table.specs.ObjectRows.{row_with_name, object_value, has_object, with_object}
use Rattle.pt_table.specs.ObjectRows.{and_object, without_object, is_in_use, out_of_chains}
use Rattle.pt_records.specs.declared.objects.Object.{Object}
use Rattle.pt_records.specs.declared.objects.Object.TheVariants.{Mutex, Rwlock}
use Rattle.pt_records.specs.Objects.{Rising}
use Rattle.pt_records.specs.Writes.{WritesObject, AddsObject, RemovesObject}
use Rattle.pt_records.proofs.RowLemmas.{length-map, length-added, length-without, one_changed}
use Rattle.pt_records.proofs.RowLemmas.{one-kept, value-changed, value-added, value-without}
use Rattle.pt_records.proofs.RowLemmas.{value-there}
use Rattle.pt_records.proofs.ObjectWrites.{number_in, value_in, rising-apart, rising-new}
use Rattle.pt_records.proofs.ObjectWrites.{rising-map, rising-added, rising-without}
use Rattle.pt_records.proofs.ChainsKept.{keeps-added, keeps-removed}
use Rattle.pt_records.proofs.ObjectNames.{number-map, names-map, number-added, names-added}
use Rattle.pt_records.proofs.ObjectNames.{number-without, names-without}

module _ {A : Type 0} where
  -- a row with a new value
  abbrev put_in : Object A → ObjectRow (Object A) → ObjectRow (Object A)
  put_in x row = record row { value = x }

  -- the name of a row is unchanged
  name-kept : (x : Object A) (o : ℕ) (r : ObjectRow (Object A))
      → (one_changed number_in (put_in x) o r).name ≡ r.name
  name-kept x o r = go (nat_eq o r.number)
    where
      go : (b : Bool) → (cond b (put_in x r) r).name ≡ r.name
      go true = refl
      go false = refl

  -- the rows with a new value in the row of an object
  pub writes-object : (rows : List (ObjectRow (Object A))) (o : ℕ) (x : Object A)
      → has_object rows o ≡ true → WritesObject rows (with_object rows o x) o x
  writes-object rows o x has =
      let change = one_changed number_in (put_in x) o in
      let keeps = one-kept number_in (put_in x) (λ row. refl) o in
      record {
        look = λ p. value-changed number_in value_in (put_in x) x (λ row. refl) (λ row. refl)
            rows o p has;
        names = number-map change (name-kept x o) keeps rows;
        rising = λ k. rising-map change keeps k rows;
        many = length-map number_in change rows;
        once = names-map change (name-kept x o) rows;
      }

  -- the same by a change of the mutex that was there
  pub writes-mutex : (f : MutexState → MutexState) (rows : List (ObjectRow (Object A))) (m : ℕ)
      (kept : Object A) (u y : MutexState) → Some kept ≡ object_value rows m → kept ≡ Mutex u
      → y ≡ f u → (x : MutexState) → object_value rows m ≡ Some (Mutex x)
      → WritesObject rows (with_object rows m (Mutex y)) m (Mutex (f x))
  writes-mutex f rows m kept u y found is is_queue x e =
      let same : x ≡ u = cc in
      let what : y ≡ f x = is_queue ∙ sym (ap f same) in
      rw what
      (writes-object rows m (Mutex (f x)) (value-there number_in value_in rows m (Mutex x) e))

  -- the same by a change of the read-write lock that was there
  pub writes-lock : (f : RwlockState → RwlockState) (rows : List (ObjectRow (Object A))) (r : ℕ)
      (kept : Object A) (u y : RwlockState) → Some kept ≡ object_value rows r → kept ≡ Rwlock u
      → y ≡ f u → (x : RwlockState) → object_value rows r ≡ Some (Rwlock x)
      → WritesObject rows (with_object rows r (Rwlock y)) r (Rwlock (f x))
  writes-lock f rows r kept u y found is is_queue x e =
      let same : x ≡ u = cc in
      let what : y ≡ f x = is_queue ∙ sym (ap f same) in
      rw what
      (writes-object rows r (Rwlock (f x)) (value-there number_in value_in rows r (Rwlock x) e))

  -- if neither the number nor the name is taken, the name is new
  unnamed : (rows : List (ObjectRow (Object A))) (o : ℕ) (name : List ℕ)
      → is_in_use rows o name ≡ false → row_with_name rows name ≡ None
  unnamed rows o name e = go (has_object rows o) (row_with_name rows name) e
    where
      go : (b : Bool) (n : Option (ObjectRow (Object A))) → (b || is_some n) ≡ false → n ≡ None
      go true n e = cc
      go false None e = refl
      go false (Some row) e = cc

  -- the rows with a new one
  pub adds-object : (rows : List (ObjectRow (Object A))) (o : ℕ) (name : List ℕ) (x : Object A)
      → is_in_use rows o name ≡ false → Rising rows o
      → AddsObject rows (and_object rows o name x) o name x
  adds-object rows o name x free rising =
      let row : ObjectRow (Object A) =
      record { number = o; name = name; value = x; link = out_of_chains } in
      let new = rising-new rows o rising in
      let named = unnamed rows o name free in
      record {
        look = λ p. value-added number_in value_in rows row p new;
        names = λ n. number-added rows row n named;
        rising = rising-added rows row rising;
        many = length-added number_in rows row;
        once = names-added rows row named;
        free = ap (option_map value_in) new;
        chains = keeps-added rows o name x new;
      }

  -- the rows without one
  pub removes-object : (rows : List (ObjectRow (Object A))) (o : ℕ) → has_object rows o ≡ true
      → RemovesObject rows (without_object rows o) o
  removes-object rows o has = record {
    look = value-without number_in value_in rows o;
    names = λ once n. number-without rows o n once;
    rising = rising-without rows o;
    many = λ k rising. length-without number_in rows o (rising-apart rows k rising) has;
    once = names-without rows o;
    chains = keeps-removed rows o;
  }

-- a statement that holds anyway holds if there is an error
pub whenever-err : {T E P : Type 0} (answer : Result T E) → P → OnErr answer P
whenever-err (Ok v) p = tt
whenever-err (Err e) p = p
