use Rattle.std.proofs.Common.{ap, sym, ◌∙◌, is_some}
use Rattle.std.specs.Prelude.{slice_get}
use Rattle.pt_rwlock.specs.RowPlaces.{reads_for}
use Rattle.pt_rwlock.proofs.PlaceLemmas.{found-there}
use Rattle.pt_rwlock.proofs.rows.Rows.reads.Goals as goal

pub unwrap-requires : goal.unwrap-requires
unwrap-requires g c =
    ap is_some (c.reads_at.ensures
    ∙ ap (λ rows. reads_for c.args.client (slice_get rows c.args.place)) c.as_slice.ensures.value
    ∙ found-there c.self.inside.rows.items c.args.self.now c.args.client c.args.place
    c.self.view_is c.self.invariant c.requires.place)
    ∙ c.requires.exists

pub returns : goal.returns
returns g c =
    sym (c.reads_at.ensures
    ∙ ap (λ rows. reads_for c.args.client (slice_get rows c.args.place)) c.as_slice.ensures.value
    ∙ found-there c.self.inside.rows.items c.args.self.now c.args.client c.args.place
    c.self.view_is c.self.invariant c.requires.place)
    ∙ c.unwrap.ensures
