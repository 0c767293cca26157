use Rattle.pt_history.proofs.Growing.{shows-single}
use Rattle.pt_history.proofs.records.Records.store_short_forced.Goals as goal

pub returns : goal.returns
returns g c = shows-single _ _ _ _ c.stored_forced.ensures
