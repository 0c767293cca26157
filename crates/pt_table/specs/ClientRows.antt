-- Clients: the rows of the table of clients, as a map from their numbers.
use Rattle.std.specs.Prelude.{◌≡◌, ◌≤◌, ℕ, Bool, false, List, [], ◌∷◌, ◌++◌, Option, is_some}
use Rattle.std.specs.Prelude.{length}
use Rattle.std.specs.Prelude.{slice_get}
use Rattle.std.specs.Option.{option_map}
use Rattle.pt_types.specs.Limits.{max_clients}
use Rattle.pt_table.specs.declared.clients.ClientRow.{ClientRow}
use Rattle.pt_table.specs.Rows.{row_at, without, changed_at}
use Rattle.pt_table.specs.declared.rows.Rows.{Rows}
use Rattle.pt_table.specs.Slots.{rows_of, IsTable}

module _ {T : Type 0} where
  -- the row of the client with this number
  abbrev pub client_at : List (ClientRow T) → ℕ → Option (ClientRow T)
  client_at rows number = row_at (λ row. row.number) rows number

  -- the value of the client with this number
  abbrev pub client_value : List (ClientRow T) → ℕ → Option T
  client_value rows number = option_map (λ row. row.value) (client_at rows number)

  -- whether a client has this number
  abbrev pub has_client : List (ClientRow T) → ℕ → Bool
  has_client rows number = is_some (client_at rows number)

  -- no client has the number yet, and the table is at its limit of clients
  abbrev pub IsFullFor : List (ClientRow T) → ℕ → Type 0
  IsFullFor rows number = (has_client rows number ≡ false) × (length rows ≡ max_clients)

  -- the number of the row at an index, and its value
  abbrev pub nth_number : List (ClientRow T) → ℕ → Option ℕ
  nth_number rows index = option_map (λ row. row.number) (slice_get rows index)

  abbrev pub nth_value : List (ClientRow T) → ℕ → Option T
  nth_value rows index = option_map (λ row. row.value) (slice_get rows index)

  -- the rows, followed by a new row with this number and value
  abbrev pub and_client : List (ClientRow T) → ℕ → T → List (ClientRow T)
  and_client rows number value = rows ++ record { number = number; value = value } ∷ []

  -- the rows, with this value stored in the client's row
  abbrev pub with_client : List (ClientRow T) → ℕ → T → List (ClientRow T)
  with_client rows number value =
      changed_at (λ row. row.number) (λ row. record row { value = value }) rows number

  -- the rows without that of the client with this number
  abbrev pub without_client : List (ClientRow T) → ℕ → List (ClientRow T)
  without_client rows number = without (λ row. row.number) rows number

  -- the numbers lead to the clients, of which there are at most 1,024
  abbrev pub AreClients : {A : Type 0} → Rows (ClientRow T) A → Type 0
  AreClients table =
      IsTable (λ row. row.number) table
      × (length (rows_of (λ row. row.number) table) ≤ max_clients)
