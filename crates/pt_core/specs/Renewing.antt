-- Renewing: an event's entry and what must follow it, added after a seal.
use Rattle.std.specs.Prelude.{◌≡◌, [], None}
use Rattle.pt_model.specs.declared.entry.Event.{Event}
use Rattle.pt_model.specs.Room.{refusal}
use Rattle.pt_model.specs.Seals.{seal}
use Rattle.pt_model.specs.StartRows.{start_of_rows}
use Rattle.pt_history.specs.Stored.{Stored, stored_history}
use Rattle.pt_core.specs.Settling.{Enters, IsRoomReady}

-- the history was sealed with room for the event, then the event's entry was added, and then forced
-- entries until none must follow
pub record EntersSealed (old : Stored) (event : Event) (new : Stored) : Type 0 where
  pub sealed : Stored
  pub starts : start_of_rows sealed.start ≡ seal (stored_history old)
  pub entries : sealed.entries ≡ []
  pub same_limit : sealed.limit ≡ old.limit
  pub ready : IsRoomReady sealed event
  pub accepted : refusal (stored_history sealed) event ≡ None
  pub enters : Enters sealed event new
