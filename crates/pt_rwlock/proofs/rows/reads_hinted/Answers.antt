use Rattle.pt_rwlock.proofs.PlaceLemmas.{hinted-reads}
use Rattle.pt_rwlock.proofs.rows.reads_hinted.Goals as goal

pub returns : goal.returns
returns c =
    hinted-reads c.args.rows.now c.args.client c.in_ok-hint.field-0 c.reads_at.result c.requires
    c.reads_at.ensures
