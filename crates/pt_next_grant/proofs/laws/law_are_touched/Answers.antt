use Rattle.pt_next_grant.proofs.TouchedServices.{are_touched}
use Rattle.pt_next_grant.proofs.laws.law_are_touched.Goals as goal

pub returns : goal.returns
returns c = are_touched
