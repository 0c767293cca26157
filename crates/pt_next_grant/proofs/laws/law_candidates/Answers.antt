use Rattle.pt_next_grant.proofs.Candidates.{candidates}
use Rattle.pt_next_grant.proofs.laws.law_candidates.Goals as goal

pub returns : goal.returns
returns c = candidates
