use Rattle.pt_next_grant.proofs.Candidates.{begins_untouched}
use Rattle.pt_next_grant.proofs.laws.law_begins_untouched.Goals as goal

pub returns : goal.returns
returns c = begins_untouched
