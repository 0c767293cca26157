-- The names of the listed rows: a look-up by name goes through the map of names.
use Rattle.std.proofs.Common.{◌≡◌, ◌≢◌, ◌∙◌, ℕ, Bool, true, false, cond, nat_eq, List, [], ◌∷◌}
use Rattle.std.proofs.Common.{refl, ap, sym, Option, None, Some, true≢false, inl, inr, ◌||◌}
use Rattle.std.proofs.Common.{is_some}
use Rattle.std.proofs.Math.ListN.{set}
use Rattle.std.specs.List.{cons_option}
use Rattle.std.specs.Option.{option_map}
use Rattle.std.specs.Map.{lookup}
use Rattle.std.proofs.lemmas.Bool.Decides.{eqb_tells}
use Rattle.std.proofs.lemmas.Slice.Eq.{bytes_eq-Decides}
use Rattle.pt_types.specs.Names.{same_name}
use Rattle.pt_table.specs.declared.objects.ObjectRow.{ObjectRow}
use Rattle.pt_table.specs.ObjectRows.{object_at, row_with_name, has_object, is_in_use}
use Rattle.pt_table.specs.Slots.{row_in_slot, its_row, rows_listed, IsNumbered, IsTaken}
use Rattle.pt_table.specs.NameSlots.{name_in, IsNamed, IsSet}
use Rattle.pt_table.proofs.Lookups.{some_inj, none_some, none_of}
use Rattle.pt_table.proofs.Listed.{Tells, its-is, its-there, row_there}
use Rattle.pt_table.proofs.Written.{same_in}
use Rattle.pt_table.proofs.Removed.{kept, other_slot}

-- a name is the same as itself and no other
same-true : (t u : List ℕ) → t ≡ u → same_name t u ≡ true
same-true t u e = (bytes_eq-Decides t u).1 e

pub true-same : (t u : List ℕ) → same_name t u ≡ true → t ≡ u
true-same t u e = (bytes_eq-Decides t u).0 e

or_left : (a b : Bool) → (a || b) ≡ false → a ≡ false
or_left false b e = refl
or_left true b e = cc

or_right : (a b : Bool) → (a || b) ≡ false → b ≡ false
or_right a false e = refl
or_right false true e = cc
or_right true true e = cc

module _ {T : Type 0} where
  -- the row in the slot of a name
  row_of_name : (o : Option (ObjectRow T)) (t : List ℕ) → option_map (λ row. row.name) o ≡ Some t
      → (row : ObjectRow T) × (o ≡ Some row) × (row.name ≡ t)
  row_of_name None t e = cc
  row_of_name (Some row) t e = (row, refl, cc)

abbrev num : {T : Type 0} → ObjectRow T → ℕ
num row = row.number

module _ {T : Type 0} (slots : List (Option (ObjectRow T))) (t : List ℕ) where
  abbrev listed : List (ℕ × ℕ) → List (ObjectRow T)
  listed es = rows_listed num slots es

  -- a row that is first in its slot has the name, or another row is looked for
  named_in : (e : ℕ × ℕ) (first : ObjectRow T) → its_row num slots e.0 e.1 ≡ Some first
      → same_name t first.name ≡ true → name_in slots e.1 ≡ Some t
  named_in e first is same =
      ap (option_map (λ row. row.name)) (its-is num slots e.0 e.1 first is).0
      ∙ ap Some (sym (true-same t first.name same))

  -- if only one slot has the name, and a number has this slot, the row there is found
  name_found : (es : List (ℕ × ℕ)) (s n : ℕ) (row : ObjectRow T)
      → its_row num slots n s ≡ Some row → row.name ≡ t
      → ((k : ℕ) → name_in slots k ≡ Some t → k ≡ s) → lookup (nat_eq n) es ≡ Some s
      → row_with_name (listed es) t ≡ Some row
  name_found [] s n row is name only at = cc
  name_found (e ∷ es) s n row is name only at =
      by (λ later. name_found es s n row is name only later) (its_row num slots e.0 e.1) refl
      (eqb_tells n e.0) at
    where
      rest : Option (ObjectRow T)
      rest = row_with_name (listed es) t

      same_row : n ≡ e.0 → e.1 ≡ s → its_row num slots e.0 e.1 ≡ Some row
      same_row own slot =
          ap (λ k. its_row num slots k e.1) (sym own) ∙ ap (its_row num slots n) slot ∙ is

      slot_is : nat_eq n e.0 ≡ true → cond (nat_eq n e.0) (Some e.1) (lookup (nat_eq n) es) ≡ Some s
          → e.1 ≡ s
      slot_is own at = some_inj (sym (ap (λ b. cond b (Some e.1) (lookup (nat_eq n) es)) own) ∙ at)

      by : (lookup (nat_eq n) es ≡ Some s → rest ≡ Some row) → (o : Option (ObjectRow T))
          → its_row num slots e.0 e.1 ≡ o → Tells n e.0
          → cond (nat_eq n e.0) (Some e.1) (lookup (nat_eq n) es) ≡ Some s
          → row_with_name (cons_option o (listed es)) t ≡ Some row
      by ih None here (inl q) at =
          absurd (none_some (sym here ∙ same_row q.1 (slot_is q.0 at)))
      by ih None here (inr a) at =
          ih (sym (ap (λ b. cond b (Some e.1) (lookup (nat_eq n) es)) a.0) ∙ at)
      by ih (Some first) here q at = go (same_name t first.name) refl q
        where
          go : (b : Bool) → same_name t first.name ≡ b → Tells n e.0
              → cond b (Some first) rest ≡ Some row
          go true same q =
              sym (its-is num slots e.0 e.1 first here).0
              ∙ ap (row_in_slot slots) (only e.1 (named_in e first here same))
              ∙ (its-is num slots n s row is).0
          go false other (inl q) =
              let one : first ≡ row =
              some_inj (sym here ∙ same_row q.1 (slot_is q.0 at)) in
              absurd (true≢false (sym (same-true t first.name
              (sym name ∙ ap (λ r. r.name) (sym one))) ∙ other))
          go false other (inr a) =
              ih (sym (ap (λ b. cond b (Some e.1) (lookup (nat_eq n) es)) a.0) ∙ at)

  name_missing : (es : List (ℕ × ℕ)) → ((k : ℕ) → name_in slots k ≢ Some t)
      → row_with_name (listed es) t ≡ None
  name_missing [] none = refl
  name_missing (e ∷ es) none = by (name_missing es none) (its_row num slots e.0 e.1) refl
    where
      by : row_with_name (listed es) t ≡ None → (o : Option (ObjectRow T))
          → its_row num slots e.0 e.1 ≡ o → row_with_name (cons_option o (listed es)) t ≡ None
      by ih None here = ih
      by ih (Some first) here = go (same_name t first.name) refl
        where
          go : (b : Bool) → same_name t first.name ≡ b
              → cond b (Some first) (row_with_name (listed es) t) ≡ None
          go true same = absurd (none e.1 (named_in e first here same))
          go false other = ih

-- for a table and its rows
module _ {T : Type 0} {slots : List (Option (ObjectRow T))} {numbers : List (ℕ × ℕ)}
    {names : List (List ℕ × ℕ)}
    (h : IsNumbered (λ row. row.number) slots numbers) (k : IsNamed slots names)
    (rows : List (ObjectRow T)) (view : rows_listed (λ row. row.number) slots numbers ≡ rows) where
  -- the row in a slot is the one that the table has for its number
  pub row_here : (row : ObjectRow T) (s : ℕ) → row_in_slot slots s ≡ Some row
      → object_at rows row.number ≡ Some row
  row_here row s here =
      ap (λ rs. object_at rs row.number) (sym view) ∙ row_there h row.number s row here refl

  -- the row with a name is the one that the table has for it
  pub row_found : (t : List ℕ) (row : ObjectRow T) (s : ℕ) → row_in_slot slots s ≡ Some row
      → row.name ≡ t → Some row ≡ row_with_name rows t
  row_found t row s here name =
      let at = h.numbered s row.number (ap (option_map (λ r. r.number)) here) in
      let mine : name_in slots s ≡ Some t = ap (option_map (λ r. r.name)) here ∙ ap Some name in
      let only : (j : ℕ) → name_in slots j ≡ Some t → j ≡ s = λ j there.
      some_inj (sym (k.filed j t there) ∙ k.filed s t mine) in
      let its = its-there num slots row.number s row here refl in
      sym (name_found slots t numbers s row.number row its name only at)
      ∙ ap (λ rs. row_with_name rs t) view

  -- if no slot has the name, the table has no row with it
  pub row_missing : (t : List ℕ) → ((s : ℕ) → name_in slots s ≢ Some t)
      → None ≡ row_with_name rows t
  row_missing t none =
      sym (name_missing slots t numbers none) ∙ ap (λ rs. row_with_name rs t) view

  -- a name that no row has is in no slot
  pub name_free : (t : List ℕ) → row_with_name rows t ≡ None → (s : ℕ) → name_in slots s ≢ Some t
  name_free t free s there =
      let r = row_of_name (row_in_slot slots s) t there in
      none_some (sym free ∙ sym (row_found t r.0 s r.1 r.2))

differ : (t u : List ℕ) → t ≢ u → same_name t u ≡ false
differ t u apart = by (same_name t u) refl
  where
    by : (b : Bool) → same_name t u ≡ b → same_name t u ≡ false
    by true e = absurd (apart (true-same t u e))
    by false e = e

-- the names after a new row
module _ {T : Type 0} {slots : List (Option (ObjectRow T))} {names : List (List ℕ × ℕ)}
    (new : List (Option (ObjectRow T))) (row : ObjectRow T) (key : ℕ)
    (names' : List (List ℕ × ℕ)) (k : IsNamed slots names)
    (here : row_in_slot new key ≡ Some row)
    (same : (s : ℕ) → s ≢ key → row_in_slot new s ≡ row_in_slot slots s)
    (free : (s : ℕ) → name_in slots s ≢ Some row.name)
    (now : IsSet names row.name (Some key) names') where
  was : (s : ℕ) (t : List ℕ) → s ≢ key → name_in new s ≡ Some t → name_in slots s ≡ Some t
  was s t apart e = sym (ap (option_map (λ r. r.name)) (same s apart)) ∙ e

  its : (s : ℕ) (t : List ℕ) → s ≡ key → name_in new s ≡ Some t → row.name ≡ t
  its s t is e =
      some_inj (sym (ap (option_map (λ r. r.name)) (ap (row_in_slot new) is ∙ here)) ∙ e)

  filed_again : (s : ℕ) (t : List ℕ) → name_in new s ≡ Some t
      → lookup (same_name t) names' ≡ Some s
  filed_again s t e =
      elim (eqb_tells s key) [
        | inl is ↦
            now t
            ∙ ap (λ b. cond b (Some key) (lookup (same_name t) names))
            (same-true row.name t (its s t is.1 e))
            ∙ ap Some (sym is.1)
        | inr apart ↦
            let had = was s t apart.1 e in
            let other : row.name ≢ t = λ is. free s (had ∙ ap Some (sym is)) in
            now t
            ∙ ap (λ b. cond b (Some key) (lookup (same_name t) names)) (differ row.name t other)
            ∙ k.filed s t had
      ]

  pub IsNamed-added : IsNamed new names'
  IsNamed-added = record { filed = filed_again }

-- the names after a row is changed that keeps its number and its name
pub IsNamed-written : {T : Type 0} {slots : List (Option (ObjectRow T))} {numbers : List (ℕ × ℕ)}
    {names : List (List ℕ × ℕ)} (row : ObjectRow T) (slot : ℕ)
    (change : ObjectRow T → ObjectRow T)
    → ((r : ObjectRow T) → (change r).number ≡ r.number) → (change row).name ≡ row.name
    → IsNumbered (λ r. r.number) slots numbers → IsNamed slots names
    → row_in_slot slots slot ≡ Some row
    → IsNamed (set slots slot (Some (change row))) names
IsNamed-written row slot change keeps name h k here =
    record {
      filed = λ s t e.
          k.filed s t (sym (same_in row slot change keeps h here (λ r. r.name) name s) ∙ e);
    }

-- the names after a row is taken out, and its name with it
module _ {T : Type 0} {slots : List (Option (ObjectRow T))} {numbers : List (ℕ × ℕ)}
    {names : List (List ℕ × ℕ)} (names' : List (List ℕ × ℕ))
    (row : ObjectRow T) (slot : ℕ)
    (h : IsNumbered (λ r. r.number) slots numbers) (k : IsNamed slots names)
    (here : row_in_slot slots slot ≡ Some row)
    (now : IsSet names row.name None names') where
  filed_left : (s : ℕ) (t : List ℕ) → name_in (set slots slot None) s ≡ Some t
      → lookup (same_name t) names' ≡ Some s
  filed_left s t e =
      let apart = other_slot row row.number slot h here refl (λ r. r.name) s t e in
      let had : name_in slots s ≡ Some t =
      sym (ap (option_map (λ r. r.name)) (kept row row.number slot h here refl s apart)) ∙ e in
      let own = k.filed slot row.name (ap (option_map (λ r. r.name)) here) in
      let other : row.name ≢ t = λ is.
      apart (some_inj (sym (k.filed s t had) ∙ ap (λ u. lookup (same_name u) names) (sym is)
      ∙ own)) in
      now t ∙ ap (λ b. cond b None (lookup (same_name t) names)) (differ row.name t other)
      ∙ k.filed s t had

  pub IsNamed-removed : IsNamed (set slots slot None) names'
  IsNamed-removed = record { filed = filed_left }

-- the same for the row that `take` returns
pub named_removed : {T : Type 0} {slots : List (Option (ObjectRow T))} {numbers : List (ℕ × ℕ)}
    {names : List (List ℕ × ℕ)}
    → IsNumbered (λ r. r.number) slots numbers → IsNamed slots names
    → (new : List (Option (ObjectRow T))) (row : ObjectRow T) → IsTaken slots new (Some row)
    → (names' : List (List ℕ × ℕ)) → IsSet names row.name None names' → IsNamed new names'
named_removed h k new row taken names' now =
    rw taken.2 (IsNamed-removed names' row taken.0 h k taken.1 now)

-- the same for a new row, in a table that first made room
pub named_added : {T : Type 0} {slots : List (Option (ObjectRow T))} {numbers : List (ℕ × ℕ)}
    {names : List (List ℕ × ℕ)}
    → IsNumbered (λ r. r.number) slots numbers → IsNamed slots names
    → (rows : List (ObjectRow T)) → rows_listed (λ r. r.number) slots numbers ≡ rows
    → (roomy : List (Option (ObjectRow T))) (roomy_names : List (List ℕ × ℕ))
    → roomy ≡ slots → roomy_names ≡ names
    → (new : List (Option (ObjectRow T))) (names' : List (List ℕ × ℕ))
    → (row : ObjectRow T) (key : ℕ) → row_in_slot new key ≡ Some row
    → ((s : ℕ) → s ≢ key → row_in_slot new s ≡ row_in_slot roomy s)
    → IsSet roomy_names row.name (Some key) names'
    → row_with_name rows row.name ≡ None → IsNamed new names'
named_added h k rows view roomy roomy_names same same_names new names' row key here others now
    free =
    let as_named : IsNamed roomy roomy_names = rw (same, same_names) k in
    let no_slot : (s : ℕ) → name_in roomy s ≢ Some row.name =
    rw same (name_free h k rows view row.name free) in
    IsNamed-added new row key names' as_named here others no_slot now

-- a number and a name that are not taken have no row
pub number_free : {T : Type 0} (rows : List (ObjectRow T)) (n : ℕ) (t : List ℕ)
    → is_in_use rows n t ≡ false → object_at rows n ≡ None
number_free rows n t e =
    none_of (object_at rows n) (or_left (has_object rows n) (is_some (row_with_name rows t)) e)

pub unnamed : {T : Type 0} (rows : List (ObjectRow T)) (n : ℕ) (t : List ℕ)
    → is_in_use rows n t ≡ false → row_with_name rows t ≡ None
unnamed rows n t e =
    none_of (row_with_name rows t) (or_right (has_object rows n) (is_some (row_with_name rows t)) e)
