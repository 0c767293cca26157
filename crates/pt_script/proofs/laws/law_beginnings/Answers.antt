use Rattle.pt_script.proofs.OneTexts.{beginnings_of_all}
use Rattle.pt_script.proofs.laws.law_beginnings.Goals as goal

pub returns : goal.returns
returns c = beginnings_of_all
