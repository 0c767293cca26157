use Rattle.std.proofs.Common.{length}
use Rattle.pt_engine.specs.Engines.{as_script}
use Rattle.pt_script.specs.Tellings.{TellsBetween}
use Rattle.pt_explain.specs.Explanations.{explains}
use Rattle.pt_explain.proofs.lines.explain_all.Given as goal

abbrev pub invariant-loop-answers : goal.invariant-loop-answers
invariant-loop-answers g l =
    TellsBetween explains l.fn.cutter (as_script l.fn.engine) l.fn.out.items l.cutter
    (as_script l.engine)
    l.out.items

abbrev pub decreases-loop-answers : goal.decreases-loop-answers
decreases-loop-answers g l = length l.cutter.rest
