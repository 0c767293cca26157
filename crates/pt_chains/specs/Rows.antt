-- Rows: the chains of queues, each in a slot, and the slots by the queues' numbers.
use Rattle.std.specs.Prelude.{ℕ, ◌≡◌, List, Option, Some, None, map, slice_index_or, unwrap_or}
use Rattle.std.specs.Prelude.{nat_eq, ◌==◌, false}
use Rattle.std.specs.Option.{option_map}
use Rattle.std.specs.Map.{lookup}
use Rattle.pt_chains.specs.declared.sides.Queue.{Queue}
use Rattle.pt_chains.specs.Chains.{numbers, Unique}
use Rattle.pt_chains.specs.Boxes.{no_queue}

-- the slot of each number, the content of each slot, and the number of further rows that fit
pub record RowsView : Type 0 where
  pub places : List (ℕ × ℕ)
  pub slots : List (Option (ℕ × Queue))
  pub room : ℕ

-- the row in a slot, with its number
abbrev pub row_in : List (Option (ℕ × Queue)) → ℕ → Option (ℕ × Queue)
row_in slots slot = slice_index_or slots slot None

-- the number of the queue whose row is in a slot
abbrev pub row_number : List (Option (ℕ × Queue)) → ℕ → Option ℕ
row_number slots slot = option_map (λ r. r.0) (row_in slots slot)

-- the chains in a slot, or empty chains if it has no row
abbrev pub chains_in : List (Option (ℕ × Queue)) → ℕ → Queue
chains_in slots slot = unwrap_or (option_map (λ r. r.1) (row_in slots slot)) no_queue

-- each number with the chains of its row
abbrev pub rows_by : List (ℕ × ℕ) → List (Option (ℕ × Queue)) → List (ℕ × Queue)
rows_by places slots = map (λ e. (e.0, chains_in slots e.1)) places

abbrev pub rows_of : RowsView → List (ℕ × Queue)
rows_of v = rows_by v.places v.slots

-- each number's row is in its slot, and there is no other row
pub record AreRows (places : List (ℕ × ℕ)) (slots : List (Option (ℕ × Queue))) : Type 0 where
  pub there : (o s : ℕ) → lookup (nat_eq o) places ≡ Some s → row_number slots s ≡ Some o
  pub own : (s o : ℕ) → row_number slots s ≡ Some o → lookup (nat_eq o) places ≡ Some s
  pub once : Unique (numbers places)

-- the numbers whose row is not in this slot have the same chains as before
abbrev pub KeepsOthers : ℕ → RowsView → RowsView → Type 0
KeepsOthers slot old new =
    (number x : ℕ) → lookup (nat_eq number) old.places ≡ Some slot → (number == x) ≡ false
    → lookup (nat_eq x) (rows_of new) ≡ lookup (nat_eq x) (rows_of old)
