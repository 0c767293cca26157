use Rattle.std.proofs.Common.{ℕ, List, ap, sym, ◌∙◌, subst}
use Rattle.pt_rwlock.specs.RowPlaces.{IsInOrder, place_in}
use Rattle.pt_rwlock.proofs.rows.Rows.note_place_of.Goals as goal

pub hinted-requires : goal.hinted-requires
hinted-requires g c =
    subst IsInOrder (sym c.as_slice.ensures.value) c.self.invariant

pub returns-in-Some-clause-place : goal.returns-in-Some-clause-place
returns-in-Some-clause-place g c =
    c.in-Some.ensures
    ∙ ap (λ (xs : List (ℕ × ℕ)). place_in xs c.args.client)
    (c.as_slice.ensures.value ∙ c.self.view_is)
