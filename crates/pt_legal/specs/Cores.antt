-- Cores: what contracts see of a core.
use Rattle.std.specs.Prelude.{ℕ, ◌≡◌, ◌≤◌, List, []}
use Rattle.pt_types.specs.Limits.{max_entries}
use Rattle.pt_model.specs.declared.entry.Entry.{Entry}
use Rattle.pt_model.specs.Starts.{Start, empty_start}
use Rattle.pt_model.specs.StartRows.{StartRows, start_of_rows}
use Rattle.pt_model.specs.Histories.{History, history_since}

-- what contracts see of a core: the rows with which the history begins, the entries since then in
-- order, and the limit on their number
pub record CoreView : Type 0 where
  pub start : StartRows
  pub entries : List Entry
  pub limit : ℕ

-- what the history begins with, the entries since then in order, and the limit on their number
pub record CoreState : Type 0 where
  pub start : Start
  pub entries : List Entry
  pub limit : ℕ

-- the history of a core
abbrev pub history_of : CoreState → History
history_of k = history_since k.start k.entries

-- a core as contracts see it, with the Start that is read off its rows
abbrev pub core_state : CoreView → CoreState
core_state s = record { start = start_of_rows s.start; entries = s.entries; limit = s.limit }

-- nothing has happened yet: a history begins so, with a limit of its own  [profile]
pub record IsEmpty (k : CoreState) : Type 0 where
  pub nothing_yet : k ≡ record { start = empty_start; entries = []; limit = k.limit }
  pub limit : k.limit ≤ max_entries
