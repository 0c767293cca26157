-- Slots: the slots in which rows lie, and the list that these rows form.
use Rattle.std.specs.Prelude.{◌≡◌, ◌≢◌, ◌<◌, ℕ, List, [], ◌∷◌, Option, Some, None, count_by}
use Rattle.std.specs.Prelude.{if◌then◌else◌, is_some, length, nat_eq, filter_map, slice_index_or}
use Rattle.std.specs.Prelude.{slice_set}
use Rattle.std.specs.Option.{option_and_then, option_map}
use Rattle.std.specs.Map.{lookup, remove_entry}
use Rattle.slab.specs.Slab.{HasRoomFor}
use Rattle.indexmap.specs.IndexMap.{spare}
use Rattle.pt_table.specs.declared.rows.Rows.{Rows}
use Rattle.pt_table.specs.Rows.{row_at}

-- the entries without the one with this number
abbrev pub without_number : List (ℕ × ℕ) → ℕ → List (ℕ × ℕ)
without_number entries number = remove_entry (nat_eq number) entries

-- no number is listed twice
abbrev pub Distinct : List (ℕ × ℕ) → Type 0
Distinct [] = Unit {0}
Distinct (e ∷ es) = (lookup (nat_eq e.0) es ≡ None) × Distinct es

module _ {R : Type 0} where
  -- the row in a slot, if any
  abbrev pub row_in_slot : List (Option R) → ℕ → Option R
  row_in_slot slots slot = slice_index_or slots slot None

  -- the row in an optional slot, if there is a slot and it has a row
  abbrev pub row_in_any : List (Option R) → Option ℕ → Option R
  row_in_any slots slot = option_and_then (row_in_slot slots) slot

  -- all other slots have what they had before
  abbrev pub SameBut : List (Option R) → List (Option R) → ℕ → Type 0
  SameBut old new slot =
      (other : ℕ) → other ≢ slot → row_in_slot new other ≡ row_in_slot old other

  -- the row, if there is one, is taken out of its slot, and all other slots are unchanged
  abbrev pub IsTaken : List (Option R) → List (Option R) → Option R → Type 0
  IsTaken old new None = new ≡ old
  IsTaken old new (Some row) =
      (slot : ℕ) × (row_in_slot old slot ≡ Some row) × (new ≡ slice_set old slot None)

module _ {R : Type 0} (number : R → ℕ) where
  -- the number of the row in a slot
  abbrev pub number_in_slot : List (Option R) → ℕ → Option ℕ
  number_in_slot slots slot = option_map number (row_in_slot slots slot)

  -- the row, if it has this number
  abbrev pub with_number : ℕ → R → Option R
  with_number n row = if nat_eq n (number row) then Some row else None

  -- the row in a slot, if it has this number
  abbrev pub its_row : List (Option R) → ℕ → ℕ → Option R
  its_row slots n slot = option_and_then (with_number n) (row_in_slot slots slot)

  -- the rows of the numbers that are listed, in the order of the list; a number whose row is gone
  -- has none
  abbrev pub rows_listed : List (Option R) → List (ℕ × ℕ) → List R
  rows_listed slots numbers = filter_map (λ entry. its_row slots entry.0 entry.1) numbers

  -- each row's number leads to the row's slot, no number is listed twice, and each row is counted
  pub record IsNumbered (slots : List (Option R)) (numbers : List (ℕ × ℕ)) : Type 0 where
    pub numbered : (slot n : ℕ) → number_in_slot slots slot ≡ Some n
        → lookup (nat_eq n) numbers ≡ Some slot
    pub distinct : Distinct numbers
    pub counted : count_by is_some slots ≡ length (rows_listed slots numbers)

  module _ {A : Type 0} where
    -- the rows of a table, in the order in which they were added
    abbrev pub rows_of : Rows R A → List R
    rows_of table = rows_listed table.rows.slots table.slots.entries

    -- the table's numbers lead to its rows
    abbrev pub IsTable : Rows R A → Type 0
    IsTable table = IsNumbered table.rows.slots table.slots.entries

    -- the slot is that of the row with this number, if there is one
    pub record IsSlotOf (table : Rows R A) (n : ℕ) (slot : Option ℕ) : Type 0 where
      pub row : row_in_any table.rows.slots slot ≡ row_at number (rows_of table) n
      pub found : is_some slot ≡ is_some (row_at number (rows_of table) n)

-- one more row fits, and its number too, even if that is listed already
abbrev pub HasRoom : {R A : Type 0} → Rows R A → Type 0
HasRoom table = HasRoomFor table.rows 1 × (1 < spare table.slots)
