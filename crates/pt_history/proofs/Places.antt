-- The places of a stored history.
use Rattle.std.proofs.Common.{◌≡◌, ◌+◌, [], ◌∷◌, ◌++◌, length}
use Rattle.pt_model.specs.declared.entry.Entry.{Entry}
use Rattle.pt_model.specs.Histories.{◌▷◌, place, history_length, history_since}
use Rattle.pt_model.specs.StartRows.{start_of_rows}
use Rattle.pt_model.proofs.Histories.{behind-push, place-history_since, history_length-history_since}
use Rattle.pt_history.specs.Stored.{Stored, stored_history}

-- the place of the next entry is the Start's and the number of entries since
pub place_of_next : (s : Stored) → place (stored_history s) ≡ s.start.at + length s.entries
place_of_next s = place-history_since (start_of_rows s.start) s.entries

-- the length of the history is the number of stored entries
pub history_length-past : (s : Stored) → history_length (stored_history s) ≡ length s.entries
history_length-past s = history_length-history_since (start_of_rows s.start) s.entries

-- the history with one more entry
pub past-pushed : (s : Stored) (e : Entry)
    → history_since (start_of_rows s.start) (s.entries ++ e ∷ []) ≡ stored_history s ▷ e
past-pushed s e = behind-push (start_of_rows s.start) s.entries e
