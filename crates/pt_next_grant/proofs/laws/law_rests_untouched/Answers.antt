use Rattle.pt_next_grant.proofs.Candidates.{rests_untouched}
use Rattle.pt_next_grant.proofs.laws.law_rests_untouched.Goals as goal

pub returns : goal.returns
returns c = rests_untouched
