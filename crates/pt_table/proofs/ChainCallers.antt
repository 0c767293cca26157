-- For callers: what changes in chains and rows as rows are linked, written, added or taken out.
use Rattle.std.proofs.Common.{◌≡◌, ◌∙◌, ℕ, Bool, true, false, cond, not, nat_eq, List, [], ◌∷◌}
use Rattle.std.proofs.Common.{Option, Some, None, is_some, refl, sym, ap, subst, arith, true≢false}
use Rattle.std.specs.Option.{option_map, option_and_then}
use Rattle.std.proofs.lemmas.Bool.{eqb-true}
use Rattle.std.proofs.lemmas.Bool.Decides.{nat_tests}
use Rattle.pt_table.specs.declared.link.Link.{Link}
use Rattle.pt_table.specs.declared.objects.ObjectRow.{ObjectRow}
use Rattle.pt_table.specs.ObjectRows.{object_at, object_value, link_of, has_object, with_object}
use Rattle.pt_table.specs.ObjectRows.{and_object, without_object, out_of_chains}
use Rattle.pt_table.specs.Linked.{is_linked, next_number, number_before, linked_by}
use Rattle.pt_table.specs.Linked.{rows_without_links}
use Rattle.pt_table.specs.Linked.{but_number, IsRowChain, IsOneOf, IsRising}
use Rattle.pt_table.proofs.Members.{rising-but}
use Rattle.pt_table.proofs.Chained.{same-list, all-linked, IsLinkedList-agree}

module _ {T : Type 0} where
  abbrev bare : ObjectRow T → ObjectRow T
  bare row = record row { link = out_of_chains }

  bare-row : (rows : List (ObjectRow T)) (n : ℕ) → object_at (rows_without_links rows) n
      ≡ option_map bare (object_at rows n)
  bare-row [] n = refl
  bare-row (r ∷ rows) n = go (bare-row rows n) (nat_eq n r.number)
    where
      go : object_at (rows_without_links rows) n
          ≡ option_map bare (object_at rows n)
          → (b : Bool)
          → cond b (Some (bare r)) (object_at (rows_without_links rows) n)
          ≡ option_map bare
          (cond b (Some r) (object_at rows n))
      go ih true = refl
      go ih false = ih

  bare-value : (rows : List (ObjectRow T)) (n : ℕ)
      → object_value (rows_without_links rows) n ≡ object_value rows n
  bare-value rows n = ap (option_map (λ row. row.value)) (bare-row rows n) ∙ go (object_at rows n)
    where
      go : (o : Option (ObjectRow T)) → option_map (λ row. row.value)
          (option_map bare o)
          ≡ option_map (λ row. row.value) o
      go None = refl
      go (Some r) = refl

  bare-has : (rows : List (ObjectRow T)) (n : ℕ)
      → has_object (rows_without_links rows) n ≡ has_object rows n
  bare-has rows n = ap is_some (bare-row rows n) ∙ go (object_at rows n)
    where
      go : (o : Option (ObjectRow T))
          → is_some (option_map bare o) ≡ is_some o
      go None = refl
      go (Some r) = refl

  -- rows that differ only in their links have the same objects, with the same values
  pub same-has : (old new : List (ObjectRow T)) → rows_without_links new ≡ rows_without_links old
      → (n : ℕ)
      → has_object new n ≡ has_object old n
  same-has old new e n =
      sym (bare-has new n) ∙ ap (λ rows. has_object rows n) e ∙ bare-has old n

  pub same-value : (old new : List (ObjectRow T)) → rows_without_links new ≡ rows_without_links old
      → (n : ℕ)
      → object_value new n ≡ object_value old n
  same-value old new e n =
      sym (bare-value new n) ∙ ap (λ rows. object_value rows n) e ∙ bare-value old n

  -- all rows of a chain are linked
  pub chain-linked : (rows : List (ObjectRow T)) (head : Option ℕ) (numbers : List ℕ)
      → IsRowChain rows head numbers → (m : ℕ) → IsOneOf numbers m → is_linked rows m ≡ true
  chain-linked rows head numbers l m i =
      all-linked (next_number rows) (number_before rows) (is_linked rows) None head numbers l m i

  -- a head has one chain, so each list of its numbers rises if one does
  pub rising-each : (rows : List (ObjectRow T)) (head : Option ℕ) (ns : List ℕ)
      → IsRowChain rows head ns → IsRising ns
      → (ms : List ℕ) → IsRowChain rows head ms → IsRising ms
  rising-each rows head ns is rising ms l =
      subst IsRising
      (same-list (next_number rows) (number_before rows) (is_linked rows) None head ns ms is l)
      rising

  -- a chain that rises still rises if it is unchanged
  pub rising-kept : (old new : List (ObjectRow T)) (head : Option ℕ) (ns : List ℕ)
      → IsRowChain old head ns → IsRowChain new head ns
      → ((ms : List ℕ) → IsRowChain old head ms → IsRising ms)
      → (ms : List ℕ) → IsRowChain new head ms → IsRising ms
  rising-kept old new head ns was is rise = rising-each new head ns is (rise ns was)

  -- so does a chain from which a number was taken out
  pub rising-left : (old new : List (ObjectRow T)) (head after : Option ℕ) (m : ℕ) (ns : List ℕ)
      → IsRowChain old head ns → IsRowChain new after (but_number ns m)
      → ((ms : List ℕ) → IsRowChain old head ms → IsRising ms)
      → (ms : List ℕ) → IsRowChain new after ms → IsRising ms
  rising-left old new head after m ns was is rise =
      rising-each new after (but_number ns m) is (rising-but m ns (rise ns was))

  -- a chain is unchanged if the links of its rows are
  pub chain-kept : (old new : List (ObjectRow T)) (h : Option ℕ) (ns : List ℕ)
      → ((m : ℕ) → IsOneOf ns m → link_of new m ≡ link_of old m) → IsRowChain old h ns
      → IsRowChain new h ns
  chain-kept old new h ns kept l =
      IsLinkedList-agree (next_number old) (number_before old) (is_linked old) (next_number new)
      (number_before new) (is_linked new) None h ns
      (λ m i. (
        ap (option_and_then (λ (link : Link). link.next)) (kept m i),
        ap (option_and_then (λ (link : Link). link.before)) (kept m i),
        ap linked_by (kept m i),
      )) l

  -- writing a value changes no link
  pub link-valued : (rows : List (ObjectRow T)) (n : ℕ) (value : T) (m : ℕ)
      → link_of (with_object rows n value) m ≡ link_of rows m
  link-valued [] n value m = refl
  link-valued (r ∷ rows) n value m = go (link-valued rows n value m) (nat_eq n r.number)
    where
      found : link_of (with_object rows n value) m ≡ link_of rows m → (x : ObjectRow T)
          → x.link ≡ r.link → (b : Bool)
          → option_map (λ row. row.link) (cond b (Some x) (object_at (with_object rows n value) m))
          ≡ option_map (λ row. row.link) (cond b (Some r) (object_at rows m))
      found ih x same true = ap Some same
      found ih x same false = ih

      go : link_of (with_object rows n value) m ≡ link_of rows m → (b : Bool)
          → link_of (cond b (record r { value = value }) r ∷ with_object rows n value) m
          ≡ link_of (r ∷ rows) m
      go ih true = found ih (record r { value = value }) refl (nat_eq m r.number)
      go ih false = found ih r refl (nat_eq m r.number)

  -- a new row is in no chain, and changes no other link
  pub link-added : (rows : List (ObjectRow T)) (n : ℕ) (name : List ℕ) (value : T)
      → object_at rows n ≡ None → (m : ℕ) → link_of (and_object rows n name value) m
      ≡ cond (nat_eq m n) (Some out_of_chains) (link_of rows m)
  link-added [] n name value new m = go (nat_eq m n)
    where
      go : (b : Bool)
          → option_map (λ (row : ObjectRow T). row.link)
          (cond b
          (Some (record { number = n; name = name; value = value; link = out_of_chains })) None)
          ≡ cond b (Some out_of_chains) None
      go true = refl
      go false = refl
  link-added (r ∷ rows) n name value new m =
      go (link-added rows n name value) (nat_eq n r.number) refl new (nat_eq m r.number) refl
    where
      go : (object_at rows n ≡ None → (k : ℕ) → link_of (and_object rows n name value) k
          ≡ cond (nat_eq k n) (Some out_of_chains) (link_of rows k))
          → (a : Bool) → nat_eq n r.number ≡ a → cond a (Some r) (object_at rows n) ≡ None
          → (b : Bool) → nat_eq m r.number ≡ b
          → option_map (λ row. row.link)
          (cond b (Some r) (object_at (and_object rows n name value) m))
          ≡ cond (nat_eq m n) (Some out_of_chains)
          (option_map (λ row. row.link) (cond b (Some r) (object_at rows m)))
      go ih true s new b t = cc
      go ih false s new true t =
          let other : nat_eq m n ≡ false = grind (arith, nat_tests) in
          sym (ap (λ c. cond c (Some out_of_chains) (Some r.link)) other)
      go ih false s new false t = ih new m

  -- taking a row out changes no other link
  pub link-removed : (rows : List (ObjectRow T)) (n m : ℕ) → nat_eq n m ≡ false
      → link_of (without_object rows n) m ≡ link_of rows m
  link-removed [] n m apart = refl
  link-removed (r ∷ rows) n m apart =
      go (link-removed rows n m apart) (nat_eq n r.number) refl (nat_eq m r.number) refl
    where
      go : link_of (without_object rows n) m ≡ link_of rows m
          → (a : Bool) → nat_eq n r.number ≡ a → (b : Bool) → nat_eq m r.number ≡ b
          → link_of (cond (not a) (r ∷ without_object rows n) (without_object rows n)) m
          ≡ option_map (λ row. row.link) (cond b (Some r) (object_at rows m))
      go ih true s true t =
          let same : nat_eq n m ≡ true = grind (arith, nat_tests) in
          absurd (true≢false (sym same ∙ apart))
      go ih true s false t = ih
      go ih false s b t =
          ap (λ c. option_map (λ (row : ObjectRow T). row.link)
          (cond c (Some r) (object_at (without_object rows n) m))) t ∙ at b
        where
          at : (b : Bool) → option_map (λ (row : ObjectRow T). row.link)
              (cond b (Some r) (object_at (without_object rows n) m))
              ≡ option_map (λ row. row.link) (cond b (Some r) (object_at rows m))
          at true = refl
          at false = ih

  -- so chains are unchanged
  pub chain-valued : (rows : List (ObjectRow T)) (n : ℕ) (value : T) (h : Option ℕ) (ns : List ℕ)
      → IsRowChain rows h ns → IsRowChain (with_object rows n value) h ns
  chain-valued rows n value h ns =
      chain-kept rows (with_object rows n value) h ns (λ m i. link-valued rows n value m)

  -- a number of a chain is linked, so it is not one that has no row or is in no chain
  listed-apart : (rows : List (ObjectRow T)) (n : ℕ) → is_linked rows n ≡ false → (h : Option ℕ)
      (ns : List ℕ) → IsRowChain rows h ns → (m : ℕ) → IsOneOf ns m → nat_eq m n ≡ false
  listed-apart rows n free h ns l m i = go (nat_eq m n) refl
    where
      go : (b : Bool) → nat_eq m n ≡ b → b ≡ false
      go false e = refl
      go true e =
          let linked =
          all-linked (next_number rows) (number_before rows) (is_linked rows) None h ns l m i in
          absurd (true≢false (sym linked ∙ ap (is_linked rows) (eqb-true m n e) ∙ free))

  pub chain-added : (rows : List (ObjectRow T)) (n : ℕ) (name : List ℕ) (value : T)
      → object_at rows n ≡ None → (h : Option ℕ) (ns : List ℕ) → IsRowChain rows h ns
      → IsRowChain (and_object rows n name value) h ns
  chain-added rows n name value new h ns l =
      chain-kept rows (and_object rows n name value) h ns (λ m i.
      link-added rows n name value new m
      ∙ ap (λ b. cond b (Some out_of_chains) (link_of rows m))
      (listed-apart rows n (ap (λ o. linked_by (option_map (λ (r : ObjectRow T). r.link) o)) new)
      h ns l m i)) l

  pub chain-removed : (rows : List (ObjectRow T)) (n : ℕ) → is_linked rows n ≡ false
      → (h : Option ℕ) (ns : List ℕ) → IsRowChain rows h ns
      → IsRowChain (without_object rows n) h ns
  chain-removed rows n free h ns l =
      chain-kept rows (without_object rows n) h ns (λ m i.
      link-removed rows n m (turned m (listed-apart rows n free h ns l m i))) l
    where
      turned : (m : ℕ) → nat_eq m n ≡ false → nat_eq n m ≡ false
      turned m e = grind (arith, nat_tests)
