-- Sealed: a state whose history goes on from its seal.
use Rattle.std.specs.Prelude.{ℕ, ◌≡◌, ◌≤◌, ◌+◌, [], length}
use Rattle.pt_model.specs.StartRows.{start_of_rows}
use Rattle.pt_model.specs.Seals.{seal}
use Rattle.pt_state.specs.declared.state.State.{State}
use Rattle.pt_state.specs.Adds.{history_of}
use Rattle.pt_state.specs.Reads.{AreTables}

-- the entries and the answers were dropped, and the history begins with the seal of the old one;
-- clients, objects, clocks, the limit and the room stay the same, and the room for answers is no
-- less
pub record Seals {A : Type 0} (old new : State A) : Type 0 where
  pub starts : start_of_rows new.stored.start ≡ seal (history_of old)
  pub entries : new.stored.entries ≡ []
  pub limit : new.stored.limit ≡ old.stored.limit
  pub room : new.stored.room ≡ old.stored.room
  pub read : AreTables new
  pub clients : new.clients ≡ old.clients
  pub objects : new.objects ≡ old.objects
  pub orphans : new.orphans ≡ old.orphans
  pub clocks : new.clocks ≡ old.clocks
  pub answers : length new.answers.items ≡ 0
  pub has_capacity : old.answers.capacity ≤ new.answers.capacity + length old.answers.items

-- nothing changed, except that there may be more memory for answers
pub record StaysOrGrows {A : Type 0} (old new : State A) : Type 0 where
  pub stored : new.stored ≡ old.stored
  pub read : AreTables new
  pub replies : length new.answers.items ≡ length old.answers.items
  pub has_capacity : old.answers.capacity ≤ new.answers.capacity

-- the entries and the answers were put aside, and the history begins with the seal of the old one,
-- with room for this number of entries and memory for as many answers
pub record SealsWithRoom {A : Type 0} (old new : State A) (n : ℕ) : Type 0 where
  pub starts : start_of_rows new.stored.start ≡ seal (history_of old)
  pub entries : new.stored.entries ≡ []
  pub limit : new.stored.limit ≡ old.stored.limit
  pub room : new.stored.room ≡ n
  pub read : AreTables new
  pub answers : length new.answers.items ≡ 0
  pub has_capacity : n ≤ new.answers.capacity
