use Rattle.pt_script.proofs.EachTexts.{each_text}
use Rattle.pt_script.proofs.OneTexts.{one_text}
use Rattle.pt_script.proofs.laws.law_one_text.Goals as goal

pub returns-clause-one : goal.returns-clause-one
returns-clause-one c = one_text

pub returns-clause-each : goal.returns-clause-each
returns-clause-each c = each_text
