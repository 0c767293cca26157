use Rattle.pt_script.proofs.Noted.{answers_have_lines}
use Rattle.pt_script.proofs.laws.law_answers_have_lines.Goals as goal

pub returns : goal.returns
returns c = answers_have_lines
