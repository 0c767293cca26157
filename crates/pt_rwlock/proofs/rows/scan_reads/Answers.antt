use Rattle.std.proofs.Common.{refl, ◌∙◌}
use Rattle.pt_rwlock.proofs.PlaceLemmas.{found-there}
use Rattle.pt_rwlock.proofs.rows.scan_reads.Goals as goal

pub returns : goal.returns
returns c =
    c.reads_at.ensures
    ∙ found-there c.args.rows.now c.args.rows.now c.args.client c.count_below.result refl
    c.requires c.count_below.ensures
