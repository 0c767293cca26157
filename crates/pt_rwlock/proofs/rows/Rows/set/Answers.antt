use Rattle.std.proofs.Common.{ℕ, List, ◌≡◌, ap, sym, ◌∙◌, subst, is_some, set, get_or, arith}
use Rattle.std.specs.Prelude.{IsSome}
use Rattle.std.specs.Map.{lookup, set_value}
use Rattle.std.specs.BTreeMap.{is_at}
use Rattle.std.specs.Ordering.{nat_cmp}
use Rattle.pt_rwlock.specs.RowPlaces.{IsInOrder, place_in}
use Rattle.pt_rwlock.proofs.PlaceLemmas.{found-own, found-within, lookup-set, order-set}
use Rattle.pt_rwlock.proofs.PlaceLemmas.{set-there}
use Rattle.pt_rwlock.proofs.rows.Rows.set.Goals as goal

-- the rows before the change are those that the caller sees
place-is : (inside now : List (ℕ × ℕ)) (c place : ℕ) → inside ≡ now → place ≡ place_in now c
    → place ≡ place_in inside c
place-is inside now c place same at = at ∙ ap (λ rows. place_in rows c) (sym same)

some-is : (inside now : List (ℕ × ℕ)) (c : ℕ) → inside ≡ now
    → IsSome (lookup (is_at (nat_cmp c)) now) → IsSome (lookup (is_at (nat_cmp c)) inside)
some-is inside now c same some =
    ap (λ rows. is_some (lookup (is_at (nat_cmp c)) rows)) same ∙ some

-- the row is changed where it is
set-is : (inside now : List (ℕ × ℕ)) (c place n : ℕ) → inside ≡ now → IsInOrder inside
    → place ≡ place_in now c → IsSome (lookup (is_at (nat_cmp c)) now)
    → set inside place (c, n) ≡ set_value (is_at (nat_cmp c)) inside n
set-is inside now c place n same ordered at some =
    ap (λ p. set inside p (c, n)) (place-is inside now c place same at)
    ∙ set-there inside c n ordered (some-is inside now c same some)

-- the row there is the client's own
own-row : (inside now : List (ℕ × ℕ)) (c place : ℕ) (row : ℕ × ℕ) → inside ≡ now
    → IsInOrder inside → place ≡ place_in now c → IsSome (lookup (is_at (nat_cmp c)) now)
    → row ≡ get_or inside place row → row.0 ≡ c
own-row inside now c place row same ordered at some value =
    ap (λ (r : ℕ × ℕ). r.0) value
    ∙ (ap (λ p. (get_or inside p row).0) (place-is inside now c place same at)
    ∙ found-own inside c ordered (some-is inside now c same some) row)

-- so only its read locks are changed
set-own : (inside now : List (ℕ × ℕ)) (c place n : ℕ) (row : ℕ × ℕ) → inside ≡ now
    → IsInOrder inside → place ≡ place_in now c → IsSome (lookup (is_at (nat_cmp c)) now)
    → row ≡ get_or inside place row
    → set inside place (row.0, n) ≡ set_value (is_at (nat_cmp c)) inside n
set-own inside now c place n row same ordered at some value =
    ap (λ k. set inside place (k, n)) (own-row inside now c place row same ordered at some value)
    ∙ set-is inside now c place n same ordered at some

pub index_mut-requires : goal.index_mut-requires
index_mut-requires g c =
    let items = c.self.inside.rows.items in
    let now = c.args.self.now in
    let within = found-within items c.args.client c.self.invariant
    (some-is items now c.args.client c.self.view_is c.requires.exists) in
    let at = place-is items now c.args.client c.args.place c.self.view_is c.requires.place in
    omega (arith, within, at)

pub invariant_of-self : goal.invariant_of-self
invariant_of-self g c =
    subst IsInOrder
    (sym (set-own c.self.inside.rows.items c.args.self.now c.args.client c.args.place c.args.reads
    c.index_mut.result.now c.self.view_is c.self.invariant c.requires.place c.requires.exists
    c.index_mut.ensures.value))
    (order-set c.self.inside.rows.items c.args.client c.args.reads c.self.invariant)

pub returns-clause-rows : goal.returns-clause-rows
returns-clause-rows g c =
    set-own c.self.inside.rows.items c.args.self.now c.args.client c.args.place c.args.reads
    c.index_mut.result.now c.self.view_is c.self.invariant c.requires.place c.requires.exists
    c.index_mut.ensures.value
    ∙ ap (λ rows. set_value (is_at (nat_cmp c.args.client)) rows c.args.reads) c.self.view_is

pub returns-clause-others : goal.returns-clause-others
returns-clause-others g c = λ other.
    ap (lookup (is_at (nat_cmp other))) (returns-clause-rows g c)
    ∙ lookup-set c.args.self.now c.args.client c.args.reads other c.requires.exists
