use Rattle.std.proofs.Common.{ap, ◌∙◌, is_some}
use Rattle.std.specs.Prelude.{slice_get}
use Rattle.pt_rwlock.specs.RowPlaces.{reads_for}
use Rattle.pt_rwlock.proofs.PlaceLemmas.{found-there}
use Rattle.pt_rwlock.proofs.rows.Rows.scan_for.Goals as goal

pub returns-clause-found : goal.returns-clause-found
returns-clause-found g c =
    let place = c.search-place.result in
    c.is_some.ensures
    ∙ ap is_some (c.reads_at.ensures
    ∙ ap (λ rows. reads_for c.args.client (slice_get rows place)) c.as_slice.ensures.value
    ∙ found-there c.self.inside.rows.items c.args.self.now c.args.client place
    (c.self.view_is ∙ c.search-place.ensures.unchanged) c.self.invariant
    c.search-place.ensures.place)
