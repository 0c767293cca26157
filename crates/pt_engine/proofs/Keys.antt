-- Keys: rows that are found by their keys after one is written or added.
use Rattle.std.proofs.Common.{◌≡◌, ℕ, suc, zero, Bool, true, false, cond, List, [], ◌∷◌, ◌++◌}
use Rattle.std.proofs.Common.{Option, Some, None, Decides, length, refl, sym, ap, subst, ◌∙◌}
use Rattle.std.proofs.Common.{◌<◌, ◌⊎◌, inl, inr, get_or, arith}
use Rattle.std.proofs.Math.ListN.{set}
use Rattle.std.specs.Prelude.{slice_get}
use Rattle.std.specs.Map.{lookup}
use Rattle.std.specs.Option.{option_map, option_or}
use Rattle.std.proofs.lemmas.Option.{none-some, same_Some, slice_get_read, slice_get_within}
use Rattle.std.proofs.lemmas.Bool.{false≢true}
use Rattle.std.proofs.lemmas.Bool.Decides.{same_from_decides, Decides-like}
use Rattle.pt_engine.specs.Places.{key_at, ArePlaces}
use Rattle.pt_engine.proofs.Counted.{lookup_push}

pub none_else : {X : Type 0} (o : Option X) → option_or o None ≡ o
none_else None = refl
none_else (Some x) = refl

module _ {K V : Type 0} where
  -- the index of a key is within the list
  pub key_within : (rows : List (K × V)) (i : ℕ) (key : K) → key_at rows i ≡ Some key
      → i < length rows
  key_within rows i key at = by (slice_get rows i) refl at
    where
      by : (o : Option (K × V)) → slice_get rows i ≡ o → option_map (λ e. e.0) o ≡ Some key
          → i < length rows
      by None is e = absurd cc
      by (Some row) is e = slice_get_within rows i row is

  -- the row at an index has this key
  pub row_read : (rows : List (K × V)) (i : ℕ) (row : K × V) (key : K) → i < length rows
      → row ≡ get_or rows i row → row.0 ≡ key → slice_get rows i ≡ Some (key, row.1)
  row_read rows i row key below is same =
      slice_get_read rows (length rows) i row refl below is ∙ ap (λ k. Some (k, row.1)) same

  -- the same, of a row that was read
  pub row_at : (rows : List (K × V)) (i : ℕ) (key : K) (row : K × V) → key_at rows i ≡ Some key
      → slice_get rows i ≡ Some row → slice_get rows i ≡ Some (key, row.1)
  row_at rows i key row at is =
      is ∙ ap (λ k. Some (k, row.1))
      (same_Some row.0 key (sym (ap (option_map (λ e. e.0)) is) ∙ at))

  key_at-set : (rows : List (K × V)) (i : ℕ) (key : K) (v : V) → key_at rows i ≡ Some key
      → (j : ℕ) → key_at (set rows i (key, v)) j ≡ key_at rows j
  key_at-set [] i key v at j = absurd cc
  key_at-set (p ∷ rows) zero key v at zero = sym at
  key_at-set (p ∷ rows) zero key v at (suc j) = refl
  key_at-set (p ∷ rows) (suc i) key v at zero = refl
  key_at-set (p ∷ rows) (suc i) key v at (suc j) = key_at-set rows i key v at j

  key_at-pushed : (rows : List (K × V)) (key : K) (v : V) (i : ℕ) (q : K)
      → key_at (rows ++ (key, v) ∷ []) i ≡ Some q
      → (key_at rows i ≡ Some q) ⊎ ((i ≡ length rows) × (key ≡ q))
  key_at-pushed [] key v zero q e = inr (refl, same_Some key q e)
  key_at-pushed [] key v (suc i) q e = absurd cc
  key_at-pushed (p ∷ rows) key v zero q e = inl e
  key_at-pushed (p ∷ rows) key v (suc i) q e = by (key_at-pushed rows key v i q e)
    where
      by : (key_at rows i ≡ Some q) ⊎ ((i ≡ length rows) × (key ≡ q))
          → (key_at rows i ≡ Some q) ⊎ ((suc i ≡ length (p ∷ rows)) × (key ≡ q))
      by (inl old) = inl old
      by (inr new) = inr (ap suc new.0, new.1)

  key_at-kept : (rows : List (K × V)) (key : K) (v : V) (i : ℕ) (q : K)
      → key_at rows i ≡ Some q → key_at (rows ++ (key, v) ∷ []) i ≡ Some q
  key_at-kept [] key v i q e = absurd cc
  key_at-kept (p ∷ rows) key v zero q e = e
  key_at-kept (p ∷ rows) key v (suc i) q e = key_at-kept rows key v i q e

  pub key_at-new : (rows : List (K × V)) (key : K) (v : V)
      → key_at (rows ++ (key, v) ∷ []) (length rows) ≡ Some key
  key_at-new [] key v = refl
  key_at-new (p ∷ rows) key v = key_at-new rows key v

module _ {K : Type 0} (eq : K → K → Bool) (decides : (a b : K) → Decides (eq a b) (a ≡ b)) where
  pub either_way : (a b : K) → eq a b ≡ eq b a
  either_way a b =
      same_from_decides (eq a b) (eq b a) (decides a b)
      (Decides-like (eq b a) sym sym (decides b a))

module _ {K V : Type 0} (eq : K → K → Bool) (decides : (a b : K) → Decides (eq a b) (a ≡ b)) where
  -- no row with this key is at another index
  abbrev IsOnly : List (K × V) → ℕ → K → Type 0
  IsOnly rows i key = (j : ℕ) → key_at rows j ≡ Some key → j ≡ i

  -- the row at an index is found by its key
  lookup_at : (rows : List (K × V)) (i : ℕ) (key : K) (v : V)
      → slice_get rows i ≡ Some (key, v) → IsOnly rows i key → lookup (eq key) rows ≡ Some v
  lookup_at [] i key v at only = absurd cc
  lookup_at (p ∷ rows) zero key v at only =
      let is = same_Some p (key, v) at in
      rw ((decides key p.0).1 (sym (ap (λ e. e.0) is))) (ap (λ e. Some e.1) is)
  lookup_at (p ∷ rows) (suc i) key v at only =
      by (eq key p.0) (decides key p.0).0
      (lookup_at rows i key v at
      (λ j e. let up : suc j ≡ suc i = only (suc j) e in omega (arith, up)))
    where
      by : (b : Bool) → (b ≡ true → key ≡ p.0) → lookup (eq key) rows ≡ Some v
          → cond b (Some p.1) (lookup (eq key) rows) ≡ Some v
      by true same rest =
          let up : zero ≡ suc i = only zero (ap Some (sym (same refl))) in
          absurd (omega (arith, up))
      by false same rest = rest

  -- a key that is at no index is not found
  lookup_none : (rows : List (K × V)) (key : K) → ((i : ℕ) → key_at rows i ≡ Some key → ⊥)
      → lookup (eq key) rows ≡ None
  lookup_none [] key none = refl
  lookup_none (p ∷ rows) key none =
      by (eq key p.0) (decides key p.0).0 (lookup_none rows key (λ i. none (suc i)))
    where
      by : (b : Bool) → (b ≡ true → key ≡ p.0) → lookup (eq key) rows ≡ None
          → cond b (Some p.1) (lookup (eq key) rows) ≡ None
      by true same rest = absurd (none zero (ap Some (sym (same refl))))
      by false same rest = rest

  lookup-set : (rows : List (K × V)) (i : ℕ) (key : K) (v : V) → key_at rows i ≡ Some key
      → IsOnly rows i key → (q : K)
      → lookup (eq q) (set rows i (key, v)) ≡ cond (eq key q) (Some v) (lookup (eq q) rows)
  lookup-set [] i key v at only q = absurd cc
  lookup-set (p ∷ rows) zero key v at only q =
      rw (same_Some p.0 key at, either_way eq decides q key) (by (eq key q))
    where
      by : (b : Bool)
          → cond b (Some v) (lookup (eq q) rows)
          ≡ cond b (Some v) (cond b (Some p.1) (lookup (eq q) rows))
      by true = refl
      by false = refl
  lookup-set (p ∷ rows) (suc i) key v at only q =
      by (eq q p.0) (decides q p.0).0 (eq key q) (decides key q).0
      (lookup-set rows i key v at
      (λ j e. let up : suc j ≡ suc i = only (suc j) e in omega (arith, up)) q)
    where
      by : (b : Bool) → (b ≡ true → q ≡ p.0) → (c : Bool) → (c ≡ true → key ≡ q)
          → lookup (eq q) (set rows i (key, v)) ≡ cond c (Some v) (lookup (eq q) rows)
          → cond b (Some p.1) (lookup (eq q) (set rows i (key, v)))
          ≡ cond c (Some v) (cond b (Some p.1) (lookup (eq q) rows))
      by true here true same rest =
          let up : zero ≡ suc i = only zero (ap Some (sym (same refl ∙ here refl))) in
          absurd (omega (arith, up))
      by true here false same rest = refl
      by false here c same rest = rest

  -- after a row is added whose key had none
  pub found_more : (rows : List (K × V)) (key : K) (v : V) → lookup (eq key) rows ≡ None
      → (q : K)
      → lookup (eq q) (rows ++ (key, v) ∷ []) ≡ cond (eq key q) (Some v) (lookup (eq q) rows)
  found_more rows key v none q =
      lookup_push (eq q) rows key v
      ∙ ap (λ b. option_or (lookup (eq q) rows) (cond b (Some v) None))
      (either_way eq decides q key)
      ∙ by (eq key q) (decides key q).0
    where
      by : (b : Bool) → (b ≡ true → key ≡ q)
          → option_or (lookup (eq q) rows) (cond b (Some v) None)
          ≡ cond b (Some v) (lookup (eq q) rows)
      by true same =
          ap (λ k. option_or (lookup (eq k) rows) (Some v)) (sym (same refl))
          ∙ ap (λ o. option_or o (Some v)) none
      by false same = none_else (lookup (eq q) rows)

  module _ (rows : List (K × V)) (places : List (K × ℕ)) (are : ArePlaces eq rows places) where
    only_at : (i : ℕ) (key : K) → key_at rows i ≡ Some key → IsOnly rows i key
    only_at i key at j there = same_Some j i (sym (are.all key j there) ∙ are.all key i at)

    -- the row at an index is found by its key
    pub placed : (i : ℕ) (key : K) (v : V) → slice_get rows i ≡ Some (key, v)
        → lookup (eq key) rows ≡ Some v
    placed i key v at = lookup_at rows i key v at (only_at i key (ap (option_map (λ e. e.0)) at))

    -- a key with no index has no row
    pub unplaced : (key : K) → lookup (eq key) places ≡ None → lookup (eq key) rows ≡ None
    unplaced key none =
        lookup_none rows key (λ i e. none-some i (sym none ∙ are.all key i e))

    -- after a row is written at its key's index
    placed_set : (i : ℕ) (key : K) (v : V) → key_at rows i ≡ Some key
        → ArePlaces eq (set rows i (key, v)) places
    placed_set i key v at = record {
      own = λ q j e. key_at-set rows i key v at j ∙ are.own q j e;
      all = λ q j e. are.all q j (sym (key_at-set rows i key v at j) ∙ e);
    }

    found_set : (i : ℕ) (key : K) (v : V) → key_at rows i ≡ Some key → (q : K)
        → lookup (eq q) (set rows i (key, v)) ≡ cond (eq key q) (Some v) (lookup (eq q) rows)
    found_set i key v at = lookup-set rows i key v at (only_at i key at)

    -- a row that is read at its key's index, and may be written there
    module _ (i : ℕ) (key : K) (row : K × V) (at : key_at rows i ≡ Some key)
        (is : row ≡ get_or rows i row) where
      here : slice_get rows i ≡ Some row
      here = slice_get_read rows (length rows) i row refl (key_within rows i key at) is

      own_key : row.0 ≡ key
      own_key = same_Some row.0 key (sym (ap (option_map (λ e. e.0)) here) ∙ at)

      pub found_read : lookup (eq key) rows ≡ Some row.1
      found_read = placed i key row.1 (here ∙ ap (λ k. Some (k, row.1)) own_key)

      pub placed_write : (v : V) → ArePlaces eq (set rows i (row.0, v)) places
      placed_write v =
          subst (λ k. ArePlaces eq (set rows i (k, v)) places) (sym own_key)
          (placed_set i key v at)

      pub found_write : (v : V) (q : K)
          → lookup (eq q) (set rows i (row.0, v)) ≡ cond (eq key q) (Some v) (lookup (eq q) rows)
      found_write v q =
          ap (λ k. lookup (eq q) (set rows i (k, v))) own_key ∙ found_set i key v at q

    -- a key with no row has no index
    absent : (key : K) → lookup (eq key) rows ≡ None → (i : ℕ) → key_at rows i ≡ Some key → ⊥
    absent key none i at = by (slice_get rows i) refl at
      where
        by : (o : Option (K × V)) → slice_get rows i ≡ o → option_map (λ e. e.0) o ≡ Some key → ⊥
        by None is e = none-some key e
        by (Some row) is e =
            none-some row.1
            (sym none
            ∙ placed i key row.1 (is ∙ ap (λ k. Some (k, row.1)) (same_Some row.0 key e)))

    -- after a row is added for a key that had none, and its index is noted
    pub placed_more : (key : K) (v : V) (new : List (K × ℕ)) (n : ℕ)
        → lookup (eq key) rows ≡ None → n ≡ length rows
        → ((q : K) → lookup (eq q) new ≡ cond (eq key q) (Some n) (lookup (eq q) places))
        → ArePlaces eq (rows ++ (key, v) ∷ []) new
    placed_more key v new n none last put = record {
      own = λ q i e. own q i (eq key q) (decides key q).0 (sym (put q) ∙ e);
      all = λ q i e.
          put q ∙ all q i (eq key q) (decides key q) (key_at-pushed rows key v i q e);
    }
      where
        own : (q : K) (i : ℕ) (b : Bool) → (b ≡ true → key ≡ q)
            → cond b (Some n) (lookup (eq q) places) ≡ Some i
            → key_at (rows ++ (key, v) ∷ []) i ≡ Some q
        own q i true same e =
            subst (λ j. key_at (rows ++ (key, v) ∷ []) j ≡ Some q) (sym last ∙ same_Some n i e)
            (key_at-new rows key v ∙ ap Some (same refl))
        own q i false same e = key_at-kept rows key v i q (are.own q i e)

        all : (q : K) (i : ℕ) (b : Bool) → Decides b (key ≡ q)
            → (key_at rows i ≡ Some q) ⊎ ((i ≡ length rows) × (key ≡ q))
            → cond b (Some n) (lookup (eq q) places) ≡ Some i
        all q i true same (inl old) =
            absurd (absent key none i (old ∙ ap Some (sym (same.0 refl))))
        all q i true same (inr added) = ap Some (last ∙ sym added.0)
        all q i false same (inl old) = are.all q i old
        all q i false same (inr added) = absurd (false≢true (same.1 added.1))
