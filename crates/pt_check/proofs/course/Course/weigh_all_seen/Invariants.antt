use Rattle.std.proofs.Common.{length}
use Rattle.pt_check.proofs.course.Course.weigh_all_seen.Given as goal

abbrev pub decreases-loop-answer : goal.decreases-loop-answer
decreases-loop-answer g l = length l.seen
