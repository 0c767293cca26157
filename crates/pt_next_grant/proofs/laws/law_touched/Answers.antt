use Rattle.pt_next_grant.proofs.TouchedEntries.{touches}
use Rattle.pt_next_grant.proofs.laws.law_touched.Goals as goal

pub returns : goal.returns
returns c = touches
