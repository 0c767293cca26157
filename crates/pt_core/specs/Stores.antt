-- Stores: what a core shows of its stored history, and what always holds of it.
use Rattle.std.specs.Prelude.{◌+◌, ◌≤◌, length}
use Rattle.pt_types.specs.Limits.{max_entries}
use Rattle.pt_model.specs.StartRows.{start_of_rows}
use Rattle.pt_model.specs.Legal.{LegalSince, events_of}
use Rattle.pt_model.specs.Room.{need}
use Rattle.pt_model.specs.Steps.{IsStart}
use Rattle.pt_history.specs.Stored.{Stored, stored_history}
use Rattle.pt_legal.specs.Cores.{CoreState, CoreView}

-- what contracts see of a stored history
abbrev pub store_view : Stored → CoreView
store_view s = record { start = s.start; entries = s.entries; limit = s.limit }

-- a stored history as a core shows it
abbrev pub store_core : Stored → CoreState
store_core s = record { start = start_of_rows s.start; entries = s.entries; limit = s.limit }

-- the entries since the Start are the one legal list for their events, and there is room for what
-- must follow
pub record IsStoreValid (s : Stored) : Type 0 where
  pub starts : IsStart (start_of_rows s.start)
  pub legal : LegalSince (start_of_rows s.start) s.entries (events_of s.entries)
  pub room : need (stored_history s) ≤ s.room
  pub fits : length s.entries + s.room ≤ s.limit
  pub limit : s.limit ≤ max_entries
