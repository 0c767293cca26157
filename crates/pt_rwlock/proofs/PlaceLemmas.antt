-- PlaceLemmas: the place of a client's row: a look-up, a change and a new row there.
use Rattle.std.proofs.Common.{rules, ℕ, zero, suc, Bool, ◌≡◌, ◌==◌, ◌<◌, ◌≤◌, true, false, cond}
use Rattle.std.proofs.Common.{nat_lt, List, [], ◌∷◌, Option, Some, None, is_some, length, get_or}
use Rattle.std.proofs.Common.{refl, set, sym, ap, ◌∙◌, inl, inr, arith, subst}
use Rattle.std.specs.Prelude.{slice_get, IfSome, IsSome}
use Rattle.std.specs.List.{AllByRecursion, insert}
use Rattle.std.specs.List.Sorted.{IsStrictlySortedBy}
use Rattle.std.specs.Map.{lookup, set_value, keys_of}
use Rattle.std.specs.Ordering.{nat_cmp, is_eq, match_ordering}
use Rattle.std.specs.declared.cmp.Ordering.{Ordering}
use Rattle.std.specs.declared.cmp.Ordering.TheVariants.{Less, Equal, Greater}
use Rattle.std.specs.BTreeMap.{is_at, insert_entry}
use Rattle.std.proofs.lemmas.Bool.{cases_lt, lt-ltb, le-ltb}
use Rattle.std.proofs.lemmas.Bool.Decides.{eqb_tells}
use Rattle.std.proofs.lemmas.Map.{keys-set_value}
use Rattle.std.proofs.lemmas.Map.Keys.{sorted_head, sorted_tail}
use Rattle.pt_rwlock.proofs.RowLemmas.{is_eq-nat_cmp}
use Rattle.pt_rwlock.specs.RowPlaces.{IsInOrder, place_in, reads_for}

-- how numbers compare
pub less-lt : (x y : ℕ) → nat_cmp x y ≡ Less → x < y
less-lt x y less = search rules

pub lt-less : (x y : ℕ) → x < y → nat_cmp x y ≡ Less
lt-less x y less = search rules

pub gt-greater : (x y : ℕ) → y < x → nat_cmp x y ≡ Greater
gt-greater x y more = search rules

pub greater-gt : (x y : ℕ) → nat_cmp x y ≡ Greater → y < x
greater-gt x y more = search rules

pub equal-same : (x y : ℕ) → nat_cmp x y ≡ Equal → x ≡ y
equal-same x y same = search rules

pub same-equal : (x y : ℕ) → x ≡ y → nat_cmp x y ≡ Equal
same-equal x y same = search rules

-- rows of greater clients only
abbrev pub AreAbove : ℕ → List (ℕ × ℕ) → Type 0
AreAbove c rows = AllByRecursion (λ y. nat_cmp c y ≡ Less) (keys_of rows)

pub above-at : (c : ℕ) (rows : List (ℕ × ℕ)) (i : ℕ) (d : ℕ × ℕ) → AreAbove c rows
    → i < length rows → c < (get_or rows i d).0
above-at c [] i d above inside = absurd (omega arith)
above-at c (e ∷ es) zero d above inside = less-lt c e.0 above.0
above-at c (e ∷ es) (suc i) d above inside = above-at c es i d above.1 (omega (arith, inside))

-- they are above each lower client too
pub above-lower : (b c : ℕ) (rows : List (ℕ × ℕ)) → b < c → AreAbove c rows → AreAbove b rows
above-lower b c [] less above = tt
above-lower b c (e ∷ es) less above =
    let front : c < e.0 = less-lt c e.0 above.0 in
    (lt-less b e.0 (omega arith), above-lower b c es less above.1)

-- and a client below them has no row
pub above-none : (c : ℕ) (rows : List (ℕ × ℕ)) → AreAbove c rows
    → lookup (is_at (nat_cmp c)) rows ≡ None
above-none c [] above = refl
above-none c (e ∷ es) above =
    ap (λ o. cond (is_eq o) (Some e.1) (lookup (is_at (nat_cmp c)) es)) above.0
    ∙ above-none c es above.1

-- the place of a client is past a row of a lower client
place-past : (e : ℕ × ℕ) (es : List (ℕ × ℕ)) (c : ℕ) → e.0 < c
    → place_in (e ∷ es) c ≡ suc (place_in es c)
place-past e es c less = ap (λ b. cond b (suc (place_in es c)) 0) (lt-ltb e.0 c less)

-- and is 0 if the first row is of any other client
place-here : (e : ℕ × ℕ) (es : List (ℕ × ℕ)) (c : ℕ) → c ≤ e.0 → place_in (e ∷ es) c ≡ 0
place-here e es c most = ap (λ b. cond b (suc (place_in es c)) 0) (le-ltb e.0 c most)

-- a row of a lower client is before the place
pub lower-before : (rows : List (ℕ × ℕ)) (c i : ℕ) (d : ℕ × ℕ) → IsInOrder rows
    → i < length rows → (get_or rows i d).0 < c → i < place_in rows c
lower-before [] c i d ordered inside less = absurd (omega arith)
lower-before (e ∷ es) c zero d ordered inside less =
    let past = place-past e es c less in
    omega (arith, past)
lower-before (e ∷ es) c (suc i) d ordered inside less =
    let front = above-at e.0 es i d (sorted_head nat_cmp e.0 (keys_of es) ordered)
    (omega (arith, inside)) in
    let past = place-past e es c (omega (arith, front, less)) in
    let tail = lower-before es c i d (sorted_tail nat_cmp e.0 (keys_of es) ordered)
    (omega (arith, inside)) less in
    omega (arith, past, tail)

-- any other row is not
pub other-behind : (rows : List (ℕ × ℕ)) (c i : ℕ) (d : ℕ × ℕ) → i < length rows
    → c ≤ (get_or rows i d).0 → place_in rows c ≤ i
other-behind [] c i d inside most = absurd (omega arith)
other-behind (e ∷ es) c zero d inside most =
    let here = place-here e es c most in
    omega (arith, here)
other-behind (e ∷ es) c (suc i) d inside most =
    go (nat_lt e.0 c) (other-behind es c i d (omega (arith, inside)) most)
  where
    go : (b : Bool) → place_in es c ≤ i → cond b (suc (place_in es c)) 0 ≤ suc i
    go true tail = omega (arith, tail)
    go false tail = omega arith

-- the place is at most the number of rows
pub place-most : (rows : List (ℕ × ℕ)) (c : ℕ) → place_in rows c ≤ length rows
place-most [] c = omega arith
place-most (e ∷ es) c = go (nat_lt e.0 c) (place-most es c)
  where
    go : (b : Bool) → place_in es c ≤ length es
        → cond b (suc (place_in es c)) 0 ≤ suc (length es)
    go true tail = omega (arith, tail)
    go false tail = omega arith

-- a row that has reads of the client is the client's own
own-is : (rows : List (ℕ × ℕ)) (c i : ℕ) → IsSome (reads_for c (slice_get rows i))
    → (i < length rows) × ((d : ℕ × ℕ) → (get_or rows i d).0 ≡ c)
own-is [] c i own = cc
own-is (e ∷ es) c zero own = elim (eqb_tells e.0 c) [
  | inl same ↦ (omega arith, λ d. same.1)
  | inr apart ↦ let none = ap (λ b. is_some (cond b (Some e.1) None)) apart.0 in cc
]
own-is (e ∷ es) c (suc i) own = let tail = own-is es c i own in (omega (arith, tail.0), tail.1)

-- and it is at the client's place
pub own-there : (rows : List (ℕ × ℕ)) (c i : ℕ) → IsInOrder rows
    → IsSome (reads_for c (slice_get rows i)) → i ≡ place_in rows c
own-there [] c i ordered own = cc
own-there (e ∷ es) c zero ordered own =
    let same = (own-is (e ∷ es) c zero own).1 e in
    sym (place-here e es c (omega (arith, same)))
own-there (e ∷ es) c (suc i) ordered own =
    let here = own-is es c i own in
    let same = here.1 e in
    let front = above-at e.0 es i e (sorted_head nat_cmp e.0 (keys_of es) ordered) here.0 in
    ap suc (own-there es c i (sorted_tail nat_cmp e.0 (keys_of es) ordered) own)
    ∙ sym (place-past e es c (omega (arith, same, front)))

-- what is found in a row and those that follow it
found-at : (e : ℕ × ℕ) (es : List (ℕ × ℕ)) (c : ℕ) (o : Ordering) → nat_cmp c e.0 ≡ o
    → lookup (is_at (nat_cmp c)) (e ∷ es)
    ≡ cond (is_eq o) (Some e.1) (lookup (is_at (nat_cmp c)) es)
found-at e es c o is = ap (λ o. cond (is_eq o) (Some e.1) (lookup (is_at (nat_cmp c)) es)) is

-- a client below the first row has none
none-before : (e : ℕ × ℕ) (es : List (ℕ × ℕ)) (c : ℕ) → IsInOrder (e ∷ es) → c < e.0
    → lookup (is_at (nat_cmp c)) (e ∷ es) ≡ None
none-before e es c ordered less =
    found-at e es c Less (lt-less c e.0 less)
    ∙ above-none c es (above-lower c e.0 es less (sorted_head nat_cmp e.0 (keys_of es) ordered))

-- the client's row is found at its place
pub found : (rows : List (ℕ × ℕ)) (c : ℕ) → IsInOrder rows
    → lookup (is_at (nat_cmp c)) rows ≡ reads_for c (slice_get rows (place_in rows c))
found [] c ordered = refl
found (e ∷ es) c ordered = elim (cases_lt e.0 c) [
  | inl less ↦
      found-at e es c Greater (gt-greater c e.0 less)
      ∙ found es c (sorted_tail nat_cmp e.0 (keys_of es) ordered)
      ∙ sym (ap (λ p. reads_for c (slice_get (e ∷ es) p)) (place-past e es c less))
  | inr most ↦
      let here = ap (λ p. reads_for c (slice_get (e ∷ es) p)) (place-here e es c most) in
      elim (eqb_tells e.0 c) [
        | inl same ↦
            found-at e es c Equal (same-equal c e.0 (sym same.1))
            ∙ sym (ap (λ b. cond b (Some e.1) None) same.0) ∙ sym here
        | inr apart ↦
            let differ = apart.1 in
            none-before e es c ordered (omega (arith, most, differ))
            ∙ sym (ap (λ b. cond b (Some e.1) None) apart.0) ∙ sym here
      ]
]

-- a row that is found is within the rows
pub found-within : (rows : List (ℕ × ℕ)) (c : ℕ) → IsInOrder rows
    → IsSome (lookup (is_at (nat_cmp c)) rows) → place_in rows c < length rows
found-within rows c ordered some =
    (own-is rows c (place_in rows c) (sym (ap is_some (found rows c ordered)) ∙ some)).0

-- and the row there is its own
pub found-own : (rows : List (ℕ × ℕ)) (c : ℕ) → IsInOrder rows
    → IsSome (lookup (is_at (nat_cmp c)) rows) → (d : ℕ × ℕ)
    → (get_or rows (place_in rows c) d).0 ≡ c
found-own rows c ordered some =
    (own-is rows c (place_in rows c) (sym (ap is_some (found rows c ordered)) ∙ some)).1

-- the row at the place is changed
pub set-there : (rows : List (ℕ × ℕ)) (c n : ℕ) → IsInOrder rows
    → IsSome (lookup (is_at (nat_cmp c)) rows)
    → set rows (place_in rows c) (c, n) ≡ set_value (is_at (nat_cmp c)) rows n
set-there [] c n ordered some = cc
set-there (e ∷ es) c n ordered some = elim (cases_lt e.0 c) [
  | inl less ↦
      let greater = gt-greater c e.0 less in
      ap (λ p. set (e ∷ es) p (c, n)) (place-past e es c less)
      ∙ ap (λ rows. e ∷ rows) (set-there es c n (sorted_tail nat_cmp e.0 (keys_of es) ordered)
      (sym (ap is_some (found-at e es c Greater greater)) ∙ some))
      ∙ sym (written greater)
  | inr most ↦
      elim (eqb_tells e.0 c) [
        | inl same ↦
            ap (λ p. set (e ∷ es) p (c, n)) (place-here e es c most)
            ∙ ap (λ k. (k, n) ∷ es) (sym same.1)
            ∙ sym (written (same-equal c e.0 (sym same.1)))
        | inr apart ↦
            let differ = apart.1 in
            let none = ap is_some (none-before e es c ordered (omega (arith, most, differ))) in
            cc
      ]
]
  where
    written : {o : Ordering} → nat_cmp c e.0 ≡ o → set_value (is_at (nat_cmp c)) (e ∷ es) n
        ≡ cond (is_eq o) ((e.0, n) ∷ es) (e ∷ set_value (is_at (nat_cmp c)) es n)
    written is =
        ap (λ o. cond (is_eq o) ((e.0, n) ∷ es) (e ∷ set_value (is_at (nat_cmp c)) es n)) is

-- a row is added at the place
pub insert-there : (rows : List (ℕ × ℕ)) (c n : ℕ) → IsInOrder rows
    → lookup (is_at (nat_cmp c)) rows ≡ None
    → insert rows (place_in rows c) (c, n) ≡ insert_entry nat_cmp rows c n
insert-there [] c n ordered none = refl
insert-there (e ∷ es) c n ordered none = elim (cases_lt e.0 c) [
  | inl less ↦
      let greater = gt-greater c e.0 less in
      ap (λ p. insert (e ∷ es) p (c, n)) (place-past e es c less)
      ∙ ap (λ rows. e ∷ rows) (insert-there es c n
      (sorted_tail nat_cmp e.0 (keys_of es) ordered)
      (sym (found-at e es c Greater greater) ∙ none))
      ∙ sym (written greater)
  | inr most ↦
      elim (eqb_tells e.0 c) [
        | inl same ↦ let some = found-at e es c Equal (same-equal c e.0 (sym same.1)) in cc
        | inr apart ↦
            let differ = apart.1 in
            ap (λ p. insert (e ∷ es) p (c, n)) (place-here e es c most)
            ∙ sym (written (lt-less c e.0 (omega (arith, most, differ))))
      ]
]
  where
    written : {o : Ordering} → nat_cmp c e.0 ≡ o → insert_entry nat_cmp (e ∷ es) c n
        ≡ match_ordering o ((c, n) ∷ e ∷ es) ((e.0, n) ∷ es) (e ∷ insert_entry nat_cmp es c n)
    written is = ap (λ o. match_ordering o ((c, n) ∷ e ∷ es) ((e.0, n) ∷ es)
        (e ∷ insert_entry nat_cmp es c n)) is

-- rows stay above a client when a row above it is added
above-inserted : (b c n : ℕ) (rows : List (ℕ × ℕ)) → b < c → AreAbove b rows
    → AreAbove b (insert_entry nat_cmp rows c n)
above-inserted b c n [] less above = (lt-less b c less, tt)
above-inserted b c n (e ∷ es) less above =
    go (nat_cmp c e.0) (above-inserted b c n es less above.1)
  where
    go : (o : Ordering) → AreAbove b (insert_entry nat_cmp es c n)
        → AreAbove b (match_ordering o ((c, n) ∷ e ∷ es) ((e.0, n) ∷ es)
        (e ∷ insert_entry nat_cmp es c n))
    go Less tail = (lt-less b c less, above)
    go Equal tail = above
    go Greater tail = (above.0, tail)

-- rows stay in order when one is added
pub order-inserted : (rows : List (ℕ × ℕ)) (c n : ℕ) → IsInOrder rows
    → IsInOrder (insert_entry nat_cmp rows c n)
unfolding IsStrictlySortedBy
order-inserted [] c n ordered = (tt, tt)
order-inserted (e ∷ es) c n ordered =
    go (nat_cmp c e.0) refl (order-inserted es c n ordered.1)
  where
    go : (o : Ordering) → nat_cmp c e.0 ≡ o → IsInOrder (insert_entry nat_cmp es c n)
        → IsInOrder (match_ordering o ((c, n) ∷ e ∷ es) ((e.0, n) ∷ es)
        (e ∷ insert_entry nat_cmp es c n))
    go Less is tail =
        ((is, above-lower c e.0 es (less-lt c e.0 is) ordered.0), ordered)
    go Equal is tail = ordered
    go Greater is tail =
        (above-inserted e.0 c n es (greater-gt c e.0 is) ordered.0, tail)

-- and when one is changed
pub order-set : (rows : List (ℕ × ℕ)) (c n : ℕ) → IsInOrder rows
    → IsInOrder (set_value (is_at (nat_cmp c)) rows n)
order-set rows c n ordered =
    subst (IsStrictlySortedBy nat_cmp) (sym (keys-set_value (is_at (nat_cmp c)) rows n)) ordered

-- whether a client is this one
is-own : (c other : ℕ) → is_eq (nat_cmp other c) ≡ (c == other)
is-own c other = elim (eqb_tells c other) [
  | inl same ↦ ap is_eq (same-equal other c (sym same.1)) ∙ sym same.0
  | inr apart ↦
      elim (eqb_tells other c) [
        | inl back ↦ absurd (apart.1 (sym back.1))
        | inr back ↦ is_eq-nat_cmp other c ∙ back.0 ∙ sym apart.0
      ]
]

-- a client that equals one of two that differ isn't the other
not-both : (c e other : ℕ) → (c ≡ e → ⊥) → is_eq (nat_cmp other e) ≡ true
    → (c == other) ≡ false
not-both c e other differ is = elim (eqb_tells c other) [
  | inl same ↦
      elim (eqb_tells e other) [
        | inl too ↦ absurd (differ (same.1 ∙ sym too.1))
        | inr apart ↦ let none = is-own e other in let no = apart.0 in cc
      ]
  | inr apart ↦ apart.0
]

-- a choice between values, with the test and the values in the other order
choice-here : {X : Type 0} (b o : Bool) (x y z : X) → b ≡ o → cond b y z ≡ cond o y (cond b x z)
choice-here true true x y z same = refl
choice-here true false x y z same = cc
choice-here false true x y z same = cc
choice-here false false x y z same = refl

choice-past : {X : Type 0} (b o : Bool) (x y z w : X) → (b ≡ true → o ≡ false)
    → w ≡ cond o y z → cond b x w ≡ cond o y (cond b x z)
choice-past true o x y z w apart is = sym (ap (λ o. cond o y x) (apart refl))
choice-past false o x y z w apart is = is

-- what is found after a row is added
pub lookup-inserted : (rows : List (ℕ × ℕ)) (c n other : ℕ)
    → lookup (is_at (nat_cmp other)) (insert_entry nat_cmp rows c n)
    ≡ cond (c == other) (Some n) (lookup (is_at (nat_cmp other)) rows)
lookup-inserted [] c n other = ap (λ b. cond b (Some n) None) (is-own c other)
lookup-inserted (e ∷ es) c n other =
    go (nat_cmp c e.0) refl (lookup-inserted es c n other)
  where
    go : (o : Ordering) → nat_cmp c e.0 ≡ o
        → lookup (is_at (nat_cmp other)) (insert_entry nat_cmp es c n)
        ≡ cond (c == other) (Some n) (lookup (is_at (nat_cmp other)) es)
        → lookup (is_at (nat_cmp other)) (match_ordering o ((c, n) ∷ e ∷ es) ((e.0, n) ∷ es)
        (e ∷ insert_entry nat_cmp es c n))
        ≡ cond (c == other) (Some n) (lookup (is_at (nat_cmp other)) (e ∷ es))
    go Less is tail =
        ap (λ b. cond b (Some n) (lookup (is_at (nat_cmp other)) (e ∷ es))) (is-own c other)
    go Equal is tail =
        choice-here (is_eq (nat_cmp other e.0)) (c == other) (Some e.1) (Some n)
        (lookup (is_at (nat_cmp other)) es)
        (is-own e.0 other ∙ ap (λ k. k == other) (sym (equal-same c e.0 is)))
    go Greater is tail =
        choice-past (is_eq (nat_cmp other e.0)) (c == other) (Some e.1) (Some n)
        (lookup (is_at (nat_cmp other)) es)
        (lookup (is_at (nat_cmp other)) (insert_entry nat_cmp es c n))
        (not-both c e.0 other (λ same. let more = greater-gt c e.0 is in omega (arith, same, more)))
        tail

-- what is found after a row is changed
pub lookup-set : (rows : List (ℕ × ℕ)) (c n other : ℕ) → IsSome (lookup (is_at (nat_cmp c)) rows)
    → lookup (is_at (nat_cmp other)) (set_value (is_at (nat_cmp c)) rows n)
    ≡ cond (c == other) (Some n) (lookup (is_at (nat_cmp other)) rows)
lookup-set [] c n other some = cc
lookup-set (e ∷ es) c n other some = elim (eqb_tells c e.0) [
  | inl same ↦
      ap (λ o. lookup (is_at (nat_cmp other))
      (cond (is_eq o) ((e.0, n) ∷ es) (e ∷ set_value (is_at (nat_cmp c)) es n)))
      (same-equal c e.0 same.1)
      ∙ choice-here (is_eq (nat_cmp other e.0)) (c == other) (Some e.1) (Some n)
      (lookup (is_at (nat_cmp other)) es)
      (is-own e.0 other ∙ ap (λ k. k == other) (sym same.1))
  | inr apart ↦
      let seen = is_eq-nat_cmp c e.0 ∙ apart.0 in
      let left = ap (λ b. is_some (cond b (Some e.1) (lookup (is_at (nat_cmp c)) es))) seen in
      ap (λ b. lookup (is_at (nat_cmp other))
      (cond b ((e.0, n) ∷ es) (e ∷ set_value (is_at (nat_cmp c)) es n))) seen
      ∙ choice-past (is_eq (nat_cmp other e.0)) (c == other) (Some e.1) (Some n)
      (lookup (is_at (nat_cmp other)) es)
      (lookup (is_at (nat_cmp other)) (set_value (is_at (nat_cmp c)) es n))
      (not-both c e.0 other apart.1) (lookup-set es c n other (sym left ∙ some))
]

-- an empty list of rows is in order
pub order-none : (rows : List (ℕ × ℕ)) → rows ≡ [] → IsInOrder rows
unfolding IsStrictlySortedBy
order-none rows none = subst (λ rows. IsStrictlySortedBy nat_cmp (keys_of rows)) (sym none) tt

-- what is found at the place of a client, in rows that are equal to these
pub found-there : (inside now : List (ℕ × ℕ)) (c place : ℕ) → inside ≡ now → IsInOrder inside
    → place ≡ place_in now c
    → reads_for c (slice_get inside place) ≡ lookup (is_at (nat_cmp c)) now
found-there inside now c place same ordered at =
    ap (λ p. reads_for c (slice_get inside p)) at
    ∙ ap (λ rows. reads_for c (slice_get rows (place_in now c))) same
    ∙ sym (found now c (subst IsInOrder same ordered))

-- what a row at any index has of the client is what a look-up finds
pub hinted-reads : (rows : List (ℕ × ℕ)) (c i : ℕ) (r : Option ℕ) → IsInOrder rows
    → r ≡ reads_for c (slice_get rows i)
    → IfSome r (λ reads. lookup (is_at (nat_cmp c)) rows ≡ Some reads)
hinted-reads rows c i None ordered e = tt
hinted-reads rows c i (Some x) ordered e =
    sym (e
    ∙ found-there rows rows c i refl ordered (own-there rows c i ordered (ap is_some (sym e))))
