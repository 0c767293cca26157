use Rattle.std.proofs.Common.{[], subst}
use Rattle.pt_grammar.specs.Lines.{lines_to_come}
use Rattle.pt_grammar.specs.declared.script_line.ScriptLine.{ScriptLine}
use Rattle.pt_engine.specs.LineAnswers.{AnswersLine}
use Rattle.pt_engine.specs.Engines.{Appends, as_script}
use Rattle.pt_engine.proofs.Runs.{last_some, last_none}
use Rattle.pt_engine.proofs.engine.Engine.answer_last.Goals as goal

pub returns-in_ok-answer-in-Some-clause-ok : goal.returns-in_ok-answer-in-Some-clause-ok
returns-in_ok-answer-in-Some-clause-ok g c =
    last_some (as_script c.args.self.now) (lines_to_come c.args.cutter []) c.in-Some.cut
    c.args.out.now.items (as_script c.answer.new.self) c.answer.new.out.items c.in-Some.ensures
    (subst
    (λ (line : ScriptLine). Appends (AnswersLine (as_script c.args.self.now) line
    (as_script c.answer.new.self))
    c.args.out.now.items c.answer.new.out.items)
    c.of.ensures.value c.in_ok-answer-in-Some.ensures.ok)

pub returns-in-None-clause-ok : goal.returns-in-None-clause-ok
returns-in-None-clause-ok g c =
    last_none (as_script c.args.self.now) (lines_to_come c.args.cutter []) c.args.out.now.items
    c.in-None.ensures
