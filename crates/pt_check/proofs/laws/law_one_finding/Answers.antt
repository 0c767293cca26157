use Rattle.pt_check.proofs.OneFindings.{one_finding}
use Rattle.pt_check.proofs.laws.law_one_finding.Goals as goal

pub returns : goal.returns
returns c = one_finding c.law_one_text.ensures.one
