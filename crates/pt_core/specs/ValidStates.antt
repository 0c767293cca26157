-- ValidStates: a state whose tables are right, with the room and the memory that is reserved.
use Rattle.std.specs.Prelude.{ℕ, ◌+◌, ◌≤◌, length}
use Rattle.pt_model.specs.Room.{need, entry_for}
use Rattle.pt_model.specs.declared.entry.Event.{Event}
use Rattle.pt_model.specs.Histories.{◌▷◌}
use Rattle.pt_state.specs.declared.state.State.{State}
use Rattle.pt_state.specs.Reads.{AreTables}
use Rattle.pt_state.specs.Adds.{history_of}
use Rattle.pt_core.specs.Stores.{IsStoreValid}
use Rattle.pt_history.specs.Stored.{Stored}
use Rattle.pt_core.specs.Settling.{Enters, MakesRoom, Settles}

module _ {A : Type 0} where
  -- there is memory for this many more answers
  abbrev pub HasAnswerMemory : State A → ℕ → Type 0
  HasAnswerMemory s n = length s.answers.items + n ≤ s.answers.capacity

  -- the tables are right, and there is room for all that must follow and memory for its answers
  pub record HasForcedRoom (s : State A) : Type 0 where
    pub read : AreTables s
    pub room : need (history_of s) ≤ s.stored.room
    pub spare : HasAnswerMemory s (need (history_of s))

  -- the tables are right, the entries are a legal list, and there is room for all that must follow
  -- and memory for its answers
  pub record IsValidState (s : State A) : Type 0 where
    pub valid_store : IsStoreValid s.stored
    pub read : AreTables s
    pub spare : HasAnswerMemory s (need (history_of s))

  -- there is room already for the event's entry and all that must follow it, and memory for as many
  -- answers as there is room for entries
  pub record HasEventRoom (s : State A) (event : Event) : Type 0 where
    pub room : 1 + need (history_of s ▷ entry_for (history_of s) event) ≤ s.stored.room
    pub spare : HasAnswerMemory s s.stored.room

  -- room and memory were made for the event's entry and all that must follow it, and nothing else
  -- changed
  pub record MakesEventRoom (old : State A) (event : Event) (new : State A) : Type 0 where
    pub whole : IsValidState new
    pub makes_room : MakesRoom old.stored event new.stored
    pub spare : HasAnswerMemory new (1 + need (history_of old ▷ entry_for (history_of old) event))

  -- the event's entry was added, perhaps with forced ones, and adding what must still follow enters
  -- the event
  pub record Begins (old : State A) (event : Event) (new : State A) : Type 0 where
    pub roomy : HasForcedRoom new
    pub enters : (u : Stored) → Settles new.stored u → Enters old.stored event u
