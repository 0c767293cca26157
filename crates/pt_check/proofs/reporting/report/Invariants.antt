use Rattle.std.proofs.Common.{length}
use Rattle.pt_check.proofs.reporting.report.Given as goal

abbrev pub decreases-loop-block : goal.decreases-loop-block
decreases-loop-block g l = length l.blocks
