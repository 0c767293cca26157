-- ReaderLemmas: how many rows have read locks, when a row is added or changed.
use Rattle.std.proofs.Common.{ℕ, suc, Bool, ◌≡◌, ◌≢◌, ◌+◌, ◌-◌, inl, inr, ◌<◌, ◌≤◌, ◌||◌, true}
use Rattle.std.proofs.Common.{false, cond, nat_lt, List, [], ◌∷◌, Option, Some, None, is_some}
use Rattle.std.proofs.Common.{length, refl, sym, ap, ◌∙◌, arith}
use Rattle.std.specs.Prelude.{Result, Ok, Err, OnOk, OnErr}
use Rattle.std.specs.List.{list_any}
use Rattle.std.specs.Map.{lookup, set_value, values_of}
use Rattle.std.specs.Ordering.{nat_cmp, is_eq, match_ordering}
use Rattle.std.specs.declared.cmp.Ordering.{Ordering}
use Rattle.std.specs.declared.cmp.Ordering.TheVariants.{Less, Equal, Greater}
use Rattle.std.specs.BTreeMap.{is_at, insert_entry}
use Rattle.std.proofs.lemmas.Bool.{lt-ltb}
use Rattle.std.proofs.lemmas.Bool.Decides.{eqb_tells}
use Rattle.pt_rwlock.specs.RwlockState.{reader_count}

-- one for a row with read locks
abbrev pub one_if_read : ℕ → ℕ
one_if_read n = cond (nat_lt 0 n) 1 0

read-one : (n : ℕ) → 0 < n → one_if_read n ≡ 1
read-one n some = ap (λ b. cond b 1 0) (lt-ltb 0 n some)

-- one read lock less makes a difference only if it was the only one
read-alike : (n : ℕ) → (n ≡ 1 → ⊥) → one_if_read n ≡ one_if_read (n - 1)
read-alike n other = elim (eqb_tells n 0) [
  | inl none ↦
      let zero : n ≡ 0 = none.1 in
      let same : n ≡ n - 1 = omega arith in
      ap one_if_read same
  | inr some ↦
      let apart : n ≢ 0 = some.1 in
      let left : 0 < n - 1 = omega (arith, other, apart) in
      read-one n (omega arith) ∙ sym (read-one (n - 1) left)
]

-- the count after a row is changed
pub readers-set : (c n m : ℕ) (rows : List (ℕ × ℕ)) → lookup (is_at (nat_cmp c)) rows ≡ Some n
    → reader_count (set_value (is_at (nat_cmp c)) rows m) + one_if_read n
    ≡ reader_count rows + one_if_read m
readers-set c n m [] at = cc
readers-set c n m (e ∷ es) at = go (is_at (nat_cmp c) e.0) at (readers-set c n m es)
  where
    go : (b : Bool) → cond b (Some e.1) (lookup (is_at (nat_cmp c)) es) ≡ Some n
        → (lookup (is_at (nat_cmp c)) es ≡ Some n
        → reader_count (set_value (is_at (nat_cmp c)) es m) + one_if_read n
        ≡ reader_count es + one_if_read m)
        → reader_count (cond b ((e.0, m) ∷ es) (e ∷ set_value (is_at (nat_cmp c)) es m))
        + one_if_read n
        ≡ reader_count (e ∷ es) + one_if_read m
    go true at ih =
        let same : e.1 ≡ n = cc in
        let worth : one_if_read e.1 ≡ one_if_read n = ap one_if_read same in
        omega (arith, worth)
    go false at ih = omega (arith, ih at)

-- a new row has no read locks
pub readers-new : (c : ℕ) (rows : List (ℕ × ℕ)) → lookup (is_at (nat_cmp c)) rows ≡ None
    → reader_count (insert_entry nat_cmp rows c 0) ≡ reader_count rows
readers-new c [] none = refl
readers-new c (e ∷ es) none = go (nat_cmp c e.0) none (readers-new c es)
  where
    go : (o : Ordering)
        → cond (is_eq o) (Some e.1) (lookup (is_at (nat_cmp c)) es) ≡ None
        → (lookup (is_at (nat_cmp c)) es ≡ None
        → reader_count (insert_entry nat_cmp es c 0) ≡ reader_count es)
        → reader_count (match_ordering o ((c, 0) ∷ e ∷ es) ((e.0, 0) ∷ es)
        (e ∷ insert_entry nat_cmp es c 0))
        ≡ reader_count (e ∷ es)
    go Less none ih = omega arith
    go Equal none ih = cc
    go Greater none ih = ap (λ k. one_if_read e.1 + k) (ih none)

-- the count is above zero exactly if a row has read locks
pub readers-some : (rows : List (ℕ × ℕ))
    → nat_lt 0 (reader_count rows) ≡ list_any (λ n. nat_lt 0 n) (values_of rows)
readers-some [] = refl
readers-some (e ∷ es) = go (nat_lt 0 e.1) (readers-some es)
  where
    go : (b : Bool) → nat_lt 0 (reader_count es) ≡ list_any (λ n. nat_lt 0 n) (values_of es)
        → nat_lt 0 (cond b 1 0 + reader_count es)
        ≡ (b || list_any (λ n. nat_lt 0 n) (values_of es))
    go true ih = lt-ltb 0 (1 + reader_count es) (omega arith)
    go false ih =
        let none : 0 + reader_count es ≡ reader_count es = omega arith in
        ap (nat_lt 0) none ∙ ih

-- the count is at most the number of rows
pub readers-most : (rows : List (ℕ × ℕ)) → reader_count rows ≤ length rows
readers-most [] = omega arith
readers-most (e ∷ es) = go (nat_lt 0 e.1) (readers-most es)
  where
    go : (b : Bool) → reader_count es ≤ length es
        → cond b 1 0 + reader_count es ≤ suc (length es)
    go true ih = omega (arith, ih)
    go false ih = omega (arith, ih)

-- the count after a row gets one more read lock
pub readers-added : (c n count : ℕ) (old new : List (ℕ × ℕ)) → reader_count old ≡ count
    → lookup (is_at (nat_cmp c)) old ≡ Some n
    → new ≡ set_value (is_at (nat_cmp c)) old (n + 1)
    → (n ≡ 0 → reader_count new ≡ count + 1) × ((n ≡ 0 → ⊥) → reader_count new ≡ count)
readers-added c n count old new many at same =
    let sum = readers-set c n (n + 1) old at in
    let seen : reader_count new ≡ reader_count (set_value (is_at (nat_cmp c)) old (n + 1)) =
    ap reader_count same in
    let more : one_if_read (n + 1) ≡ 1 = read-one (n + 1) (omega arith) in (
      (λ none.
          let zero : one_if_read n ≡ 0 = ap one_if_read none in
          omega (arith, sum, seen, more, zero, many)),
      (λ some.
          let one : one_if_read n ≡ 1 = read-one n (omega arith) in
          omega (arith, sum, seen, more, one, many)),
    )

-- the count after a row gets one less
pub readers-taken : (c n count : ℕ) (old new : List (ℕ × ℕ)) → reader_count old ≡ count
    → lookup (is_at (nat_cmp c)) old ≡ Some n
    → new ≡ set_value (is_at (nat_cmp c)) old (n - 1)
    → (n ≡ 1 → (1 ≤ count) × (reader_count new ≡ count - 1))
    × ((n ≡ 1 → ⊥) → reader_count new ≡ count)
readers-taken c n count old new many at same =
    let sum = readers-set c n (n - 1) old at in
    let seen : reader_count new ≡ reader_count (set_value (is_at (nat_cmp c)) old (n - 1)) =
    ap reader_count same in (
      (λ one.
          let last : n - 1 ≡ 0 = omega arith in
          let left : one_if_read (n - 1) ≡ 0 = ap one_if_read last in
          let was : one_if_read n ≡ 1 = read-one n (omega arith) in
          (omega (arith, sum, left, was, many), omega (arith, sum, seen, left, was, many))),
      (λ other.
          let alike : one_if_read n ≡ one_if_read (n - 1) = read-alike n other in
          omega (arith, sum, seen, alike, many)),
    )

pub none_of : (o : Option ℕ) → is_some o ≡ false → o ≡ None
none_of None e = refl
none_of (Some n) e = cc

-- the count stays the same whether a new row was added or refused
pub readers-kept : {T E : Type 0} (r : Result T E) (c : ℕ) (old new : List (ℕ × ℕ))
    → lookup (is_at (nat_cmp c)) old ≡ None → OnOk r (new ≡ insert_entry nat_cmp old c 0)
    → OnErr r (new ≡ old) → reader_count new ≡ reader_count old
readers-kept (Ok x) c old new none ok err = ap reader_count ok ∙ readers-new c old none
readers-kept (Err x) c old new none ok err = ap reader_count err
