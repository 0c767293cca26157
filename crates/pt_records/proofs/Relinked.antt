-- Rows of objects that differ only in the chains that they are in.
use Rattle.std.proofs.Common.{◌≡◌, ◌∙◌, ℕ, ◌<◌, List, [], ◌∷◌, length, Option, Some, None}
use Rattle.std.proofs.Common.{option_map, refl, sym, ap, subst, cond, nat_eq}
use Rattle.std.specs.List.{AllByRecursion as Each}
use Rattle.pt_table.specs.declared.objects.ObjectRow.{ObjectRow}
use Rattle.pt_table.specs.ObjectRows.{row_with_name, number_of_name, out_of_chains}
use Rattle.pt_table.specs.Linked.{rows_without_links}
use Rattle.pt_table.proofs.ChainCallers.{same-value}
use Rattle.pt_model.specs.Histories.{History, place}
use Rattle.pt_records.specs.declared.objects.Object.{Object}
use Rattle.pt_records.specs.Objects.{kind_in_row, Rising, AreObjectRows}
use Rattle.pt_records.specs.Writes.{NamesOnce, WritesObject}
use Rattle.pt_records.proofs.RowLemmas.{length-map}
use Rattle.pt_records.proofs.ObjectWrites.{number_in, rising-map}
use Rattle.pt_records.proofs.ObjectNames.{row-named-map, number-map, names-map}

module _ {A : Type 0} where
  abbrev bare : ObjectRow (Object A) → ObjectRow (Object A)
  bare row = record row { link = out_of_chains }

  Each-bare : (k : ℕ) (rows : List (ObjectRow (Object A)))
      → Each (λ other. k < other.number) (rows_without_links rows)
      → Each (λ other. k < other.number) rows
  Each-bare k [] a = tt
  Each-bare k (r ∷ rows) a = (a.0, Each-bare k rows a.1)

  rising-bare : (rows : List (ObjectRow (Object A))) (k : ℕ) → Rising (rows_without_links rows) k
      → Rising rows k
  rising-bare [] k a = tt
  rising-bare (r ∷ rows) k a = (a.0, Each-bare r.number rows a.1, rising-bare rows k a.2)

  named-bare : (o : Option (ObjectRow (Object A))) → option_map bare o ≡ None → o ≡ None
  named-bare None e = refl
  named-bare (Some r) e = cc

  names-bare : (rows : List (ObjectRow (Object A))) → NamesOnce (rows_without_links rows)
      → NamesOnce rows
  names-bare [] a = tt
  names-bare (r ∷ rows) a = (
    named-bare (row_with_name rows r.name)
        (sym (row-named-map bare (λ x. refl) rows r.name) ∙ a.0),
    names-bare rows a.1,
  )

  module _ (old new : List (ObjectRow (Object A))) (e : rows_without_links new
      ≡ rows_without_links old) where
    same-names : (n : List ℕ) → number_of_name new n ≡ number_of_name old n
    same-names n =
        sym (number-map bare (λ r. refl) (λ r. refl) new n)
        ∙ ap (λ rows. number_of_name rows n) e ∙ number-map bare (λ r. refl) (λ r. refl) old n

    same-many : length new ≡ length old
    same-many =
        sym (length-map number_in bare new) ∙ ap length e ∙ length-map number_in bare old

    same-rising : (k : ℕ) → Rising old k → Rising new k
    same-rising k r =
        rising-bare new k
        (subst (λ rows. Rising rows k) (sym e) (rising-map bare (λ x. refl) k old r))

    same-once : NamesOnce old → NamesOnce new
    same-once o =
        names-bare new (subst NamesOnce (sym e) (names-map bare (λ x. refl) old o))

    -- an object that is written afterwards is written to the old rows as well
    pub written-relinked : (last : List (ObjectRow (Object A))) (o : ℕ) (x : Object A)
        → WritesObject new last o x → WritesObject old last o x
    written-relinked last o x w = record {
      look = λ p. w.look p ∙ ap (cond (nat_eq o p) (Some x)) (same-value old new e p);
      names = λ n. w.names n ∙ same-names n;
      rising = λ k r. w.rising k (same-rising k r);
      many = w.many ∙ same-many;
      once = λ n. w.once (same-once n);
    }

    -- the rows are still those of the objects that exist
    pub objects-relinked : (h : History) → AreObjectRows h old → AreObjectRows h new
    objects-relinked h a = record {
      look = record {
        kinds = λ o. ap (option_map kind_in_row) (same-value old new e o) ∙ a.look.kinds o;
        mutexes = λ o m is. a.look.mutexes o m (sym (same-value old new e o) ∙ is);
        rwlocks = λ o r is. a.look.rwlocks o r (sym (same-value old new e o) ∙ is);
      };
      names = λ n. same-names n ∙ a.names n;
      rising = same-rising (place h) a.rising;
      many = same-many ∙ a.many;
    }
