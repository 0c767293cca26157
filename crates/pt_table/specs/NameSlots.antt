-- Name slots: the slots in which the rows of names lie.
use Rattle.std.specs.Prelude.{◌≡◌, ◌≢◌, ℕ, List, Option, Some, None, if◌then◌else◌}
use Rattle.std.specs.Option.{option_map}
use Rattle.std.specs.Map.{lookup}
use Rattle.pt_types.specs.Names.{same_name}
use Rattle.pt_table.specs.declared.objects.ObjectRow.{ObjectRow}
use Rattle.pt_table.specs.Slots.{row_in_slot}

-- the name has this slot or none, and all other names have the slots that they had before
abbrev pub IsSet : List (List ℕ × ℕ) → List ℕ → Option ℕ → List (List ℕ × ℕ) → Type 0
IsSet old name slot new =
    (t : List ℕ) → lookup (same_name t) new
    ≡ (if same_name name t then slot else lookup (same_name t) old)

module _ {T : Type 0} where
  -- the name of the row in a slot
  abbrev pub name_in : List (Option (ObjectRow T)) → ℕ → Option (List ℕ)
  name_in slots slot = option_map (λ row. row.name) (row_in_slot slots slot)

  -- the row is the one with this name, or is absent because no row has this name
  abbrev pub IsRowNamed : List (Option (ObjectRow T)) → List ℕ → Option (ObjectRow T) → Type 0
  IsRowNamed slots name None = (slot : ℕ) → name_in slots slot ≢ Some name
  IsRowNamed slots name (Some row) =
      (slot : ℕ) × (row_in_slot slots slot ≡ Some row) × (row.name ≡ name)

  -- the row is the one with this name, or is absent because the slot has no row with this name
  abbrev pub IsRowIn : List (Option (ObjectRow T)) → ℕ → List ℕ → Option (ObjectRow T) → Type 0
  IsRowIn slots slot name None = name_in slots slot ≢ Some name
  IsRowIn slots slot name (Some row) = IsRowNamed slots name (Some row)

  -- each row's name leads to the row's slot
  pub record IsNamed (slots : List (Option (ObjectRow T))) (names : List (List ℕ × ℕ)) :
      Type 0 where
    pub filed : (slot : ℕ) (name : List ℕ) → name_in slots slot ≡ Some name
        → lookup (same_name name) names ≡ Some slot
