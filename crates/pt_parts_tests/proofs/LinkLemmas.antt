-- LinkLemmas: rows that are added can be put into a chain.
use Rattle.std.proofs.Common.{◌≡◌, ◌∙◌, ◌||◌, ◌+◌, ℕ, Bool, true, false, cond, nat_eq, List, Option}
use Rattle.std.proofs.Common.{Some, None, is_some, refl, ap, arith, true≢false}
use Rattle.std.specs.Option.{option_map}
use Rattle.pt_table.specs.declared.objects.ObjectRow.{ObjectRow}
use Rattle.pt_table.specs.ObjectRows.{object_at, link_of, and_object, is_in_use, out_of_chains}
use Rattle.pt_table.specs.Linked.{linked_by}
use Rattle.pt_table.proofs.ChainCallers.{link-added}
use Rattle.pt_parts_tests.specs.Linking.{AreFree, IsFree}

-- a row with a link that is in no chain is free
by-link : (rows : List (ObjectRow ℕ)) (n : ℕ) → link_of rows n ≡ Some out_of_chains → IsFree rows n
by-link rows n e = (has (object_at rows n) e, ap linked_by e)
  where
    has : (o : Option (ObjectRow ℕ)) → option_map (λ row. row.link) o ≡ Some out_of_chains
        → is_some o ≡ true
    has None e = ap is_some e
    has (Some row) e = refl

-- a row that exists has a link, which says whether it is free
kept : (rows new : List (ObjectRow ℕ)) (n : ℕ) → link_of new n ≡ link_of rows n → IsFree rows n
    → IsFree new n
kept rows new n e free =
    (linked (object_at new n) (object_at rows n) e free.0, ap linked_by e ∙ free.1)
  where
    linked : (o p : Option (ObjectRow ℕ))
        → option_map (λ row. row.link) o ≡ option_map (λ row. row.link) p → is_some p ≡ true
        → is_some o ≡ true
    linked None None e there = there
    linked None (Some row) e there = ap is_some e
    linked (Some row) p e there = refl

-- one more row is added
pub one-more : (rows : List (ObjectRow ℕ)) (number : ℕ) (name : List ℕ) (value : ℕ)
    → is_in_use rows number name ≡ false → AreFree rows number
    → AreFree (and_object rows number name value) (number + 1)
one-more rows number name value taken free n less =
    go (nat_eq n number) refl
  where
    fresh : (o : Option (ObjectRow ℕ)) (b : Bool) → (is_some o || b) ≡ false → o ≡ None
    fresh None b e = refl
    fresh (Some row) b e = absurd (true≢false e)

    new : object_at rows number ≡ None
    new = fresh (object_at rows number) _ taken

    after : (b : Bool) → nat_eq n number ≡ b
        → link_of (and_object rows number name value) n
        ≡ cond b (Some out_of_chains) (link_of rows n)
    after b e = link-added rows number name value new n
        ∙ ap (λ c. cond c (Some out_of_chains) (link_of rows n)) e

    go : (b : Bool) → nat_eq n number ≡ b → IsFree (and_object rows number name value) n
    go true e = by-link (and_object rows number name value) n (after true e)
    go false e = kept rows (and_object rows number name value) n (after false e)
        (free n (grind (arith, less, e)))
