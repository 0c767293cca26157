-- GoesOn: how one event continues the entries of a history.
use Rattle.std.specs.Prelude.{◌≡◌, List, [], ◌∷◌, ◌++◌}
use Rattle.pt_model.specs.declared.entry.Entry.{Entry}
use Rattle.pt_model.specs.declared.entry.Event.{Event}
use Rattle.pt_model.specs.Starts.{Start}
use Rattle.pt_model.specs.Histories.{history_since}
use Rattle.pt_model.specs.Room.{entry_for}
use Rattle.pt_model.specs.Legal.{LegalSince, events_of}
use Rattle.pt_model.specs.Steps.{IsStart}

-- the new entries are the old ones after a Start, then the event's entry and the forced ones after
-- it, and are legal
pub record ContinuesLegally (s : Start) (old : List Entry) (v : Event)
    (new : List Entry) : Type 0 where
  pub starts : IsStart s
  pub extends : (fs : List Entry) × (new ≡ old ++ entry_for (history_since s old) v ∷ fs)
  pub legal : LegalSince s new (events_of old ++ v ∷ [])
