use Rattle.std.proofs.Common.{ℕ, List, ap, sym, ◌∙◌, subst}
use Rattle.pt_rwlock.specs.RowPlaces.{IsInOrder, place_in}
use Rattle.pt_rwlock.proofs.rows.Rows.search.Goals as goal

pub count_below-place-requires : goal.count_below-place-requires
count_below-place-requires g c =
    subst IsInOrder (sym c.as_slice.ensures.value) c.self.invariant

pub returns-clause-place : goal.returns-clause-place
returns-clause-place g c =
    c.count_below-place.ensures
    ∙ ap (λ (xs : List (ℕ × ℕ)). place_in xs c.args.client)
    (c.as_slice.ensures.value ∙ c.self.view_is)
