use Rattle.std.proofs.Common.{length}
use Rattle.pt_check.proofs.finding.late_row.Given as goal

abbrev pub decreases-loop-block : goal.decreases-loop-block
decreases-loop-block l = length l.later
