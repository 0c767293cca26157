-- What the tables answer for the body that has them.
use Rattle.std.proofs.Common.{◌≡◌, ℕ, List, Option, Some, sym, ap, ◌∙◌}
use Rattle.pt_types.specs.declared.operations.ObjectClass.{ObjectClass}
use Rattle.pt_model.specs.Objects.{find_object}
use Rattle.pt_state.specs.declared.state.State.{State}
use Rattle.pt_state.specs.Adds.{history_of}

-- the object that a name finds in the tables is the one that it means
pub found-in : {A : Type 0} (s t : State A) → s ≡ t → (n : List ℕ) (class : ObjectClass)
    (found : Option ℕ) (o : ℕ) → found ≡ find_object (history_of s) n class → found ≡ Some o
    → find_object (history_of t) n class ≡ Some o
found-in {A = A} s t view n class found o is some =
    ap (λ (u : State A). find_object (history_of u) n class) (sym view) ∙ (sym is ∙ some)
