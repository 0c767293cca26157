use Rattle.std.proofs.Common.{sym, subst}
use Rattle.pt_grammar.specs.Script.{IsNextScriptLine, short_read}
use Rattle.pt_engine.specs.Engines.{as_script}
use Rattle.pt_engine.proofs.Runs.{answers_none, answers_next}
use Rattle.pt_engine.proofs.engine.Engine.answer_next.Goals as goal

pub returns-in-Some-clause-ok : goal.returns-in-Some-clause-ok
returns-in-Some-clause-ok g c =
    let s = as_script c.args.self.now in
    let held = c.args.cutter.now in
    let out = c.args.out.now.items in
    let line = short_read c.in-Some.text.now in
    answers_next held s out held s out c.drop_front.new.self (as_script c.answer_text.new.self)
    c.answer_text.new.out.items line (answers_none held s out)
    (subst (IsNextScriptLine held line) (sym c.drop_front.ensures.line) c.in-Some.ensures.line)
    c.in_ok-answer_text.ensures.ok
