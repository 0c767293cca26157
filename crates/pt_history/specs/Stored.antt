-- Stored: a stored history as contracts see it.
use Rattle.std.specs.Prelude.{ℕ, ◌+◌, ◌≡◌, ◌≤◌, List, [], ◌∷◌, ◌++◌, ◌-◌, Option, Some, None, map}
use Rattle.std.specs.Prelude.{length, vec_len, vec_capacity, Vec, ◌<◌}
use Rattle.std.specs.List.{All}
use Rattle.pt_types.specs.Limits.{max_place}
use Rattle.pt_model.specs.declared.entry.Entry.{Entry}
use Rattle.pt_model.specs.declared.entry.Entry.TheVariants.{Call}
use Rattle.pt_model.specs.StartRows.{StartRows, empty_rows, start_of_rows}
use Rattle.pt_history.specs.declared.compact.Compact.{Compact}
use Rattle.pt_history.specs.declared.records.Records.{Records}
use Rattle.pt_history.specs.Compact.{base_of, read_compact, IsStored}
use Rattle.pt_history.specs.Records.{parts_of, HasPartsRoom}
use Rattle.pt_model.specs.Histories.{History, history_since, outer}

-- a stored history: the rows that it begins with, the entries since, their greatest number, and the
-- number of further entries for which there is room
pub record Stored : Type 0 where
  pub start : StartRows
  pub entries : List Entry
  pub limit : ℕ
  pub room : ℕ

-- a history without entries, before which there was nothing
abbrev pub empty_store : ℕ → Stored
empty_store limit = record { start = empty_rows; entries = []; limit = limit; room = 0 }

-- a stored history with one more entry, in room that was made for it
abbrev pub stored_with : Entry → Stored → Stored
stored_with e s = record s { entries = s.entries ++ e ∷ []; room = s.room - 1 }

-- the history that is stored
abbrev pub stored_history : Stored → History
stored_history s = history_since (start_of_rows s.start) s.entries

-- the client of an entry, if the entry is a call
abbrev pub caller_of : Entry → Option ℕ
caller_of (Call c call r) = Some c
caller_of _ = None

-- the client of an entry that was looked up, if there is one and it is a call
abbrev pub caller_in : Option Entry → Option ℕ
caller_in None = None
caller_in (Some e) = caller_of e

-- the entries with their room fit the limit, there is memory for at least the room, and the Start's
-- place is not above the highest place
pub record IsWithin (at len room memory limit capacity : ℕ) : Type 0 where
  pub fits : len + room ≤ limit
  pub enough : room ≤ memory
  pub has_capacity : len + memory ≤ capacity
  pub places : at ≤ max_place

-- the count is the number of outer entries, and the Start has a place for each that it counts
pub record IsCounted (start : StartRows) (entries : List Entry) (count : ℕ) : Type 0 where
  pub before : start.outer ≤ start.at
  pub all : count ≡ outer (history_since (start_of_rows start) entries)

-- the entries that are read back from stored ones, in a history that begins at a place
abbrev pub entries_of : {A : Type 0} → ℕ → Records A → List Compact → List Entry
entries_of at records entries = map (read_compact (base_of at) (parts_of records)) entries

-- everything that the stored entries refer to is stored, and there is room for this number of
-- further entries
pub record IsRecorded {A : Type 0} (records : Records A) (entries : List Compact)
    (more : ℕ) : Type 0 where
  pub stored : All (IsStored (parts_of records)) entries
  pub room : HasPartsRoom records more
  pub bounded : vec_len records.wholes ≤ length entries

-- there is room and memory for one more entry
pub record CanAppend {A : Type 0} (entries : Vec Compact A) (room memory : ℕ) : Type 0 where
  pub some : 0 < room
  pub enough : room ≤ memory
  pub has_capacity : vec_len entries + memory ≤ vec_capacity entries

-- the stored entry is appended, in room and memory that there were
pub record Appends {A : Type 0} (c : Compact) (old new : Vec Compact A)
    (room room_left memory memory_left : ℕ) : Type 0 where
  pub items : new.items ≡ old.items ++ c ∷ []
  pub len : vec_len new ≡ vec_len old + 1
  pub capacity : vec_capacity new ≡ vec_capacity old
  pub less_room : room_left ≡ room - 1
  pub less_memory : memory_left ≡ memory - 1
