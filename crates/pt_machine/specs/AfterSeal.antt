-- AfterSeal: one more entry after a seal, in room that was made for it.
use Rattle.std.specs.Prelude.{ℕ}
use Rattle.pt_model.specs.declared.entry.Entry.{Entry}
use Rattle.pt_state.specs.declared.state.State.{State}
use Rattle.pt_state.specs.Adds.{Adds}
use Rattle.pt_state.specs.Sealed.{SealsWithRoom}

-- the history was sealed, with room for n entries, and then the entry was added
pub record AddsSealed {A : Type 0} (old : State A) (n : ℕ) (e : Entry) (new : State A) :
    Type 0 where
  pub sealed : State A
  pub seals : SealsWithRoom old sealed n
  pub adds : Adds sealed e new
