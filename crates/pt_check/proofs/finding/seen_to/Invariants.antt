use Rattle.std.proofs.Common.{length}
use Rattle.pt_check.proofs.finding.seen_to.Given as goal

abbrev pub decreases-loop-other : goal.decreases-loop-other
decreases-loop-other l = length l.seen
