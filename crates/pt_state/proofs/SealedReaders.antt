-- What is read off the rows of readers that are copied: the read locks of each client.
use Rattle.std.proofs.Common.{rules, ◌≡◌, ℕ, ◌==◌, ◌<◌, Bool, true, false, cond, List, [], ◌∷◌}
use Rattle.std.proofs.Common.{◌++◌, Option, Some, None, refl, sym, ap, ◌∙◌, subst, arith}
use Rattle.std.specs.Prelude.{option_map, unwrap_or}
use Rattle.std.specs.List.{AllByRecursion as Each}
use Rattle.std.specs.Ordering.{nat_cmp, is_eq}
use Rattle.std.specs.Map.{lookup}
use Rattle.std.specs.BTreeMap.{is_at}
use Rattle.std.proofs.lemmas.Bool.Decides.{nat_tests}
use Rattle.pt_types.specs.declared.operations.ObjectClass.TheVariants.{Rwlock as RwlockClass}
use Rattle.pt_table.specs.declared.objects.ObjectRow.{ObjectRow}
use Rattle.pt_table.specs.ObjectRows.{object_at, object_value}
use Rattle.pt_rwlock.specs.RwlockState.{reads_of, reads_in_row}
use Rattle.pt_model.specs.declared.start.StartReader.{StartReader}
use Rattle.pt_model.specs.Histories.{History}
use Rattle.pt_model.specs.Objects.{kind_of, is_class}
use Rattle.pt_model.specs.Rwlocks.{read_count}
use Rattle.pt_model.specs.StartRows.{reads_in}
use Rattle.pt_model.specs.Seals.{reads_sealed}
use Rattle.pt_records.specs.declared.objects.Object.{Object}
use Rattle.pt_records.specs.declared.objects.Object.TheVariants.{Mutex, Rwlock, Cond, Barrier}
use Rattle.pt_records.specs.Objects.{kind_in_row, Rising, AreObjectRows}
use Rattle.pt_state.specs.Copies.{readers_at, readers_in, readers_of}

-- rows of another lock are passed over
of-another : (o other c : ℕ) (pairs : List (ℕ × ℕ)) (rest : List StartReader)
    → (other == o) ≡ false → reads_in (readers_of other pairs ++ rest) o c ≡ reads_in rest o c
of-another o other c [] rest e = refl
of-another o other c (p ∷ pairs) rest e = rw e (of-another o other c pairs rest e)

same-client : (c d : ℕ) → is_eq (nat_cmp c d) ≡ (d == c)
same-client c d = search rules

-- a lock's own rows say what its rows of readers do
of-own : (o other c : ℕ) (pairs : List (ℕ × ℕ)) (rest : List StartReader) → (other == o) ≡ true
    → reads_in (readers_of other pairs ++ rest) o c
    ≡ unwrap_or (lookup (is_at (nat_cmp c)) pairs) (reads_in rest o c)
of-own o other c [] rest e = refl
of-own o other c (p ∷ pairs) rest e =
    rw (e, same-client c p.0) (go (p.0 == c) (of-own o other c pairs rest e))
  where
    go : (b : Bool)
        → reads_in (readers_of other pairs ++ rest) o c
        ≡ unwrap_or (lookup (is_at (nat_cmp c)) pairs) (reads_in rest o c)
        → cond b p.1 (reads_in (readers_of other pairs ++ rest) o c)
        ≡ unwrap_or (cond b (Some p.1) (lookup (is_at (nat_cmp c)) pairs)) (reads_in rest o c)
    go true ih = refl
    go false ih = ih

module _ {A : Type 0} where
  -- the read locks of a client at what is stored of an object
  abbrev reads_at : Option (Object A) → ℕ → ℕ
  reads_at (Some (Rwlock r)) c = reads_of r c
  reads_at _ c = 0

  -- rows with greater numbers have none of this object
  none-later : (o c : ℕ) (rows : List (ObjectRow (Object A)))
      → Each (λ other. o < other.number) rows → reads_in (readers_in rows) o c ≡ 0
  none-later o c [] e = refl
  none-later o c (row ∷ rows) e =
      let apart : (row.number == o) ≡ false = above row.number e.0 in
      go row.value apart (none-later o c rows e.1)
    where
      above : (n : ℕ) → o < n → (n == o) ≡ false
      above n lt = grind (arith, nat_tests)

      go : (x : Object A) → (row.number == o) ≡ false → reads_in (readers_in rows) o c ≡ 0
          → reads_in (readers_at row.number x ++ readers_in rows) o c ≡ 0
      go (Mutex m) apart ih = ih
      go (Rwlock r) apart ih =
          of-another o row.number c r.rows (readers_in rows) apart ∙ ih
      go (Cond q) apart ih = ih
      go (Barrier n) apart ih = ih

  read-rows : (rows : List (ObjectRow (Object A))) (n o c : ℕ) → Rising rows n
      → reads_in (readers_in rows) o c ≡ reads_at (object_value rows o) c
  read-rows [] n o c r = refl
  read-rows (row ∷ rows) n o c r =
      pick (o == row.number) refl (read-rows rows n o c r.2)
    where
      other : (x : Object A) → (row.number == o) ≡ false
          → reads_in (readers_at row.number x ++ readers_in rows) o c
          ≡ reads_in (readers_in rows) o c
      other (Mutex m) apart = refl
      other (Rwlock q) apart = of-another o row.number c q.rows (readers_in rows) apart
      other (Cond q) apart = refl
      other (Barrier k) apart = refl

      own : (x : Object A) → (row.number == o) ≡ true → reads_in (readers_in rows) o c ≡ 0
          → reads_in (readers_at row.number x ++ readers_in rows) o c ≡ reads_at (Some x) c
      own (Mutex m) here rest = rest
      own (Rwlock q) here rest =
          of-own o row.number c q.rows (readers_in rows) here
          ∙ ap (unwrap_or (reads_in_row q c)) rest
      own (Cond q) here rest = rest
      own (Barrier k) here rest = rest

      pick : (b : Bool) → (o == row.number) ≡ b
          → reads_in (readers_in rows) o c ≡ reads_at (object_value rows o) c
          → reads_in (readers_at row.number row.value ++ readers_in rows) o c
          ≡ reads_at (option_map (λ (x : ObjectRow (Object A)). x.value)
          (cond b (Some row) (object_at rows o))) c
      pick true e ih =
          let same : row.number ≡ o = grind (arith, nat_tests) in
          let here : (row.number == o) ≡ true = grind (arith, nat_tests) in
          own row.value here
          (none-later o c rows (subst (λ k. Each (λ other. k < other.number) rows) same r.1))
      pick false e ih =
          let apart : (row.number == o) ≡ false = grind (arith, nat_tests) in
          other row.value apart ∙ ih

  -- the read locks of each client, dead clients included
  pub sealed-read_count : (h : History) (rows : List (ObjectRow (Object A))) → AreObjectRows h rows
      → (o c : ℕ) → reads_in (readers_in rows) o c ≡ reads_sealed h o c
  sealed-read_count h rows k o c =
      read-rows rows _ o c k.rising ∙ go (object_value rows o) refl
    where
      go : (x : Option (Object A)) → object_value rows o ≡ x → reads_at x c ≡ reads_sealed h o c
      go None e = sym (ap (λ y. cond (is_class y RwlockClass) (read_count h o c) 0) (kind None e))
        where
          kind : (x : Option (Object A)) → object_value rows o ≡ x
              → kind_of h o ≡ option_map kind_in_row x
          kind x e = sym (k.look.kinds o) ∙ ap (option_map kind_in_row) e
      go (Some x) e = of x e
        where
          kind : (x : Object A) → object_value rows o ≡ Some x
              → kind_of h o ≡ Some (kind_in_row x)
          kind x e = sym (k.look.kinds o) ∙ ap (option_map kind_in_row) e

          of : (x : Object A) → object_value rows o ≡ Some x
              → reads_at (Some x) c ≡ reads_sealed h o c
          of (Mutex m) e = sym (ap (λ y. cond (is_class y RwlockClass) (read_count h o c) 0)
              (kind _ e))
          of (Rwlock r) e =
              (k.look.rwlocks o r e).reads c
              ∙ sym (ap (λ y. cond (is_class y RwlockClass) (read_count h o c) 0) (kind _ e))
          of (Cond q) e = sym (ap (λ y. cond (is_class y RwlockClass) (read_count h o c) 0)
              (kind _ e))
          of (Barrier n) e =
              sym (ap (λ y. cond (is_class y RwlockClass) (read_count h o c) 0) (kind _ e))
