-- Moved: an object's row that enters or leaves the chain of a client, if it must.
use Rattle.std.specs.Prelude.{ℕ, ◌≡◌, ◌⊎◌, Bool, true, false, List, Option, Some}
use Rattle.pt_table.specs.declared.clients.ClientRow.{ClientRow}
use Rattle.pt_table.specs.ClientRows.{client_value}
use Rattle.pt_table.specs.declared.objects.ObjectRow.{ObjectRow}
use Rattle.pt_table.specs.Linked.{rows_without_links}
use Rattle.pt_records.specs.declared.clients.Caller.{Caller}
use Rattle.pt_records.specs.declared.objects.Object.{Object}
use Rattle.pt_records.specs.Callers.{HasDistinctNumbers}
use Rattle.pt_records.specs.Chained.{rows_without_owned}
use Rattle.pt_records.specs.Writes.{WritesCaller}

-- how an object's row enters or leaves a chain: the rows and the head before, and those after
abbrev pub Moves : Type 0 → Type 1
Moves A =
    List (ObjectRow (Object A)) → List (ObjectRow (Object A)) → Option ℕ → Option ℕ → ℕ → Type 0

module _ {A : Type 0} where
  -- if it must, the row of object m moves this way in the chain of client c, and nothing else
  -- changes; if it need not, nothing changes
  abbrev pub IsMoved : Moves A → Bool → (clients after : List (ClientRow Caller))
      → (old new : List (ObjectRow (Object A))) → (c m : ℕ) → Type 0
  IsMoved moves must clients after old new c m =
      ((must ≡ false) × ((after ≡ clients) × (new ≡ old)))
      ⊎ ((must ≡ true) × (((v : Caller) → client_value clients c ≡ Some v
      → (head : Option ℕ) × (WritesCaller clients after c (record v { owned = head })
      × moves old new v.owned head m))
      × ((rows_without_links new ≡ rows_without_links old) × (HasDistinctNumbers clients
      → rows_without_owned after ≡ rows_without_owned clients))))
