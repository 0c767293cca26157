use Rattle.pt_lines.proofs.CutLemmas.{lines-join_lines}
use Rattle.pt_lines.proofs.cutter.lines_of_texts.Goals as goal

pub returns : goal.returns
returns c = lines-join_lines
