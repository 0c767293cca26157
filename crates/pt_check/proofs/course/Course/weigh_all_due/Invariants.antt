use Rattle.std.proofs.Common.{length}
use Rattle.pt_check.proofs.course.Course.weigh_all_due.Given as goal

abbrev pub decreases-loop-row : goal.decreases-loop-row
decreases-loop-row g l = length l.rows
