use Rattle.pt_next_grant.proofs.Candidates.{serves_touched}
use Rattle.pt_next_grant.proofs.laws.law_serves_touched.Goals as goal

pub returns : goal.returns
returns c = serves_touched
