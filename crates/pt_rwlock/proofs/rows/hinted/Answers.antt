use Rattle.std.proofs.Common.{ap, sym, ◌∙◌, is_some}
use Rattle.pt_rwlock.proofs.PlaceLemmas.{own-there}
use Rattle.pt_rwlock.proofs.rows.hinted.Goals as goal

pub returns-in-Some : goal.returns-in-Some
returns-in-Some c =
    own-there c.args.rows.now c.args.client c.in_ok-place.place c.requires
    (ap is_some (sym c.reads_at.ensures ∙ c.in-Some.is))
