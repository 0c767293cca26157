use Rattle.std.proofs.Common.{length}
use Rattle.pt_text_tests.proofs.tests.cutter.count_long.Given as goal

abbrev pub decreases-loop-cut : goal.decreases-loop-cut
decreases-loop-cut g l = length l.cutter.rest
