use Rattle.std.proofs.Common.{length}
use Rattle.pt_engine.specs.Scripts.{empty_script}
use Rattle.pt_engine.specs.Engines.{as_script}
use Rattle.pt_check.proofs.Comparing.{AreCompared}
use Rattle.pt_check.proofs.checking.find.Given as goal

abbrev pub invariant-loop-block : goal.invariant-loop-block
invariant-loop-block g l = AreCompared empty_script l.fn.blocks l.blocks l.at (as_script l.engine)

abbrev pub decreases-loop-block : goal.decreases-loop-block
decreases-loop-block g l = length l.blocks
