-- Linking: object rows that can be put into a chain.
use Rattle.std.specs.Prelude.{ℕ, ◌≡◌, ◌<◌, List, true, false}
use Rattle.pt_table.specs.declared.objects.ObjectRow.{ObjectRow}
use Rattle.pt_table.specs.ObjectRows.{has_object}
use Rattle.pt_table.specs.Linked.{is_linked}

-- the object has a row, which is in no chain
abbrev pub IsFree : List (ObjectRow ℕ) → ℕ → Type 0
IsFree rows n = (has_object rows n ≡ true) × (is_linked rows n ≡ false)

-- an object of each number below this one has a row, which is in no chain
abbrev pub AreFree : List (ObjectRow ℕ) → ℕ → Type 0
AreFree rows count = (n : ℕ) → n < count → IsFree rows n
