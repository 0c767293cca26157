-- Callers: the rows of living clients, as they are read off a history.
use Rattle.std.specs.Prelude.{ℕ, ◌≡◌, ◌==◌, Bool, false, List, [], ◌∷◌, Option, Some, None, length}
use Rattle.std.specs.Prelude.{option_map, if◌then◌else◌}
use Rattle.pt_types.specs.declared.outcome.Outcome.{Outcome}
use Rattle.std.specs.Option.{option_and_then}
use Rattle.std.specs.List.{list_any, filter_map}
use Rattle.pt_table.specs.declared.clients.ClientRow.{ClientRow}
use Rattle.pt_table.specs.ClientRows.{client_value}
use Rattle.pt_model.specs.declared.entry.Cause.{Cause}
use Rattle.pt_model.specs.Histories.{History}
use Rattle.pt_model.specs.Clients.{client_priority, living_count}
use Rattle.pt_model.specs.declared.waiting_call.WaitingCall.{WaitingCall}
use Rattle.pt_model.specs.declared.waiting_call.Move.{Move}
use Rattle.pt_model.specs.Answers.{open_calls, outcome}
use Rattle.pt_model.specs.Moves.{wait_move}
use Rattle.pt_model.specs.Queries.{latest_call}
use Rattle.pt_model.specs.Found.{is_some_and}
use Rattle.pt_records.specs.declared.clients.Caller.{Caller}
use Rattle.pt_records.specs.declared.clients.Open.{Open}

-- the first of these calls that the client made
abbrev pub call_of : List WaitingCall → ℕ → Option WaitingCall
call_of [] c = None
call_of (w ∷ ws) c = if w.client == c then Some w else call_of ws c

-- the open call in a client's row, with its move
abbrev pub open_in : Option Caller → Option Open
open_in row = option_and_then (λ v. v.open) row

-- the open call in a client's row, without its move
abbrev pub call_in : Option Caller → Option WaitingCall
call_in row = option_map (λ o. o.call) (open_in row)

-- the move of the open call in a client's row, if it was moved  [XSH pthread_cond_broadcast]
abbrev pub move_in : Option Caller → Option Move
move_in row = option_and_then (λ o. o.moved) (open_in row)

-- the open calls in all rows, in the order of the rows
abbrev pub opens_of : List (ClientRow Caller) → List Open
opens_of rows = filter_map (λ row. row.value.open) rows

-- the row of a client that has just joined
abbrev pub new_caller : ℕ → Caller
new_caller p =
    record { priority = p; «open» = None; latest = None; answer = None; owned = None }

-- an open call after the entry at place k moved it  [XSH pthread_cond_broadcast]
abbrev pub open_moved_at : ℕ → Cause → Open → Open
open_moved_at k cause o = record o { moved = Some (record { at = k; cause = cause }) }

-- a row after the entry at place k moved its open call  [XSH pthread_cond_broadcast]
abbrev pub caller_after_move : ℕ → Cause → Caller → Caller
caller_after_move k cause v = record v { «open» = option_map (open_moved_at k cause) v.open }

-- a row after its client's open call got this answer
abbrev pub caller_after_answer : Option Outcome → Caller → Caller
caller_after_answer x v = record v { «open» = None; answer = x }

-- whether a row has an open call that passes the test
abbrev pub has_open : (Open → Bool) → Caller → Bool
has_open test v = is_some_and test v.open

-- a row whose client's latest call is the one at place k, with its answer if it has one
abbrev pub caller_after_call : ℕ → Option Outcome → Caller → Caller
caller_after_call k x v = record v { latest = Some k; answer = x }

-- the answer to a client's latest call
abbrev pub latest_answer : History → ℕ → Option Outcome
latest_answer h c = option_and_then (outcome h) (latest_call h c)

-- no two rows have the same number
abbrev pub HasDistinctNumbers : List (ClientRow Caller) → Type 0
HasDistinctNumbers [] = Unit {0}
HasDistinctNumbers (row ∷ rows) = (list_any (λ other. other.number == row.number) rows ≡ false)
    × HasDistinctNumbers rows

-- what is looked up for each client is what is read off the history
pub record CallersLook (h : History) (look : ℕ → Option Caller) : Type 0 where
  pub living : (c : ℕ) → option_map (λ v. v.priority) (look c) ≡ client_priority h c
  pub calls : (c : ℕ) → call_in (look c) ≡ call_of (open_calls h) c
  pub moves : (c : ℕ) (w : WaitingCall) → call_of (open_calls h) c ≡ Some w
      → move_in (look c) ≡ wait_move h w.place
  pub latest : (c : ℕ) (v : Caller) → look c ≡ Some v → v.latest ≡ latest_call h c
  pub answers : (c : ℕ) (v : Caller) → look c ≡ Some v → v.answer ≡ latest_answer h c

-- the rows are those of the living clients
pub record AreCallers (h : History) (rows : List (ClientRow Caller)) : Type 0 where
  pub look : CallersLook h (client_value rows)
  pub many : length rows ≡ living_count h
  pub once : HasDistinctNumbers rows
