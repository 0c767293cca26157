use Rattle.std.proofs.Common.{length}
use Rattle.pt_engine.specs.Engines.{AnswersBetween, as_script}
use Rattle.pt_engine.proofs.engine.Engine.answer_all.Given as goal

abbrev pub invariant-loop : goal.invariant-loop
invariant-loop g l =
    AnswersBetween l.fn.cutter (as_script l.fn.self) l.fn.out.items l.cutter
    (as_script l.self) l.out.items

abbrev pub decreases-loop : goal.decreases-loop
decreases-loop g l = length l.cutter.rest
