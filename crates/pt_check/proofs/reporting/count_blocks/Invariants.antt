use Rattle.std.proofs.Common.{length}
use Rattle.pt_check.proofs.reporting.count_blocks.Given as goal

abbrev pub decreases-loop-blocks : goal.decreases-loop-blocks
decreases-loop-blocks l = length l.blocks
