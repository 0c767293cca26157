-- Objects: the rows of the table of objects, as a map from their numbers and from their names.
use Rattle.std.specs.Prelude.{◌≡◌, ◌≤◌, ℕ, ◌||◌, Bool, false, List, [], ◌∷◌, ◌++◌, Option, None}
use Rattle.std.specs.Prelude.{find}
use Rattle.std.specs.Prelude.{is_some, length, slice_get}
use Rattle.std.specs.Option.{option_map}
use Rattle.pt_types.specs.Limits.{max_objects}
use Rattle.pt_types.specs.Names.{same_name}
use Rattle.pt_table.specs.declared.link.Link.{Link}
use Rattle.pt_table.specs.declared.objects.ObjectRow.{ObjectRow}
use Rattle.pt_table.specs.Rows.{row_at, without, changed_at}
use Rattle.pt_table.specs.declared.rows.Rows.{Rows}
use Rattle.pt_table.specs.Slots.{rows_of, IsTable}
use Rattle.pt_table.specs.NameSlots.{IsNamed}

-- the link of a row that is in no chain
abbrev pub out_of_chains : Link
out_of_chains =
    record { linked = false; next = None; next_slot = 0; before = None; before_slot = 0 }

module _ {T : Type 0} where
  -- the row of the object with this number
  abbrev pub object_at : List (ObjectRow T) → ℕ → Option (ObjectRow T)
  object_at rows number = row_at (λ row. row.number) rows number

  -- the value of the object with this number
  abbrev pub object_value : List (ObjectRow T) → ℕ → Option T
  object_value rows number = option_map (λ row. row.value) (object_at rows number)

  -- the row of the object with this name
  abbrev pub row_with_name : List (ObjectRow T) → List ℕ → Option (ObjectRow T)
  row_with_name rows name = find (λ row. same_name name row.name) rows

  -- the number of the object with this name
  abbrev pub number_of_name : List (ObjectRow T) → List ℕ → Option ℕ
  number_of_name rows name = option_map (λ row. row.number) (row_with_name rows name)

  -- the link of the row of the object with this number
  abbrev pub link_of : List (ObjectRow T) → ℕ → Option Link
  link_of rows number = option_map (λ row. row.link) (object_at rows number)

  -- whether an object has this number
  abbrev pub has_object : List (ObjectRow T) → ℕ → Bool
  has_object rows number = is_some (object_at rows number)

  -- whether an object has this number or this name
  abbrev pub is_in_use : List (ObjectRow T) → ℕ → List ℕ → Bool
  is_in_use rows number name = has_object rows number || is_some (row_with_name rows name)

  -- no object has the number or the name yet, and the table is at its limit of objects
  abbrev pub IsFullFor : List (ObjectRow T) → ℕ → List ℕ → Type 0
  IsFullFor rows number name = (is_in_use rows number name ≡ false) × (length rows ≡ max_objects)

  -- the number of the row at an index, and its value
  abbrev pub nth_number : List (ObjectRow T) → ℕ → Option ℕ
  nth_number rows index = option_map (λ row. row.number) (slice_get rows index)

  abbrev pub nth_value : List (ObjectRow T) → ℕ → Option T
  nth_value rows index = option_map (λ row. row.value) (slice_get rows index)

  -- the rows, followed by a new row with this number, name and value, which is in no chain
  abbrev pub and_object : List (ObjectRow T) → ℕ → List ℕ → T → List (ObjectRow T)
  and_object rows number name value =
      rows ++ record { number = number; name = name; value = value; link = out_of_chains } ∷ []

  -- the rows, with this value stored in the object's row
  abbrev pub with_object : List (ObjectRow T) → ℕ → T → List (ObjectRow T)
  with_object rows number value =
      changed_at (λ row. row.number) (λ row. record row { value = value }) rows number

  -- the rows, with this link stored in the object's row
  abbrev pub with_link : List (ObjectRow T) → ℕ → Link → List (ObjectRow T)
  with_link rows number link =
      changed_at (λ row. row.number) (λ row. record row { link = link }) rows number

  -- the rows without that of the object with this number
  abbrev pub without_object : List (ObjectRow T) → ℕ → List (ObjectRow T)
  without_object rows number = without (λ row. row.number) rows number

  -- the numbers lead to the objects, and so do their names, and there are at most 4,096 objects
  abbrev pub AreObjects : {A : Type 0} → Rows (ObjectRow T) A → List (List ℕ × ℕ) → Type 0
  AreObjects table names =
      IsTable (λ row. row.number) table
      × (length (rows_of (λ row. row.number) table) ≤ max_objects)
      × IsNamed table.rows.slots names
