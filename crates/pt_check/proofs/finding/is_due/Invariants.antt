use Rattle.std.proofs.Common.{length}
use Rattle.pt_check.proofs.finding.is_due.Given as goal

abbrev pub decreases-loop-row : goal.decreases-loop-row
decreases-loop-row l = length l.due
