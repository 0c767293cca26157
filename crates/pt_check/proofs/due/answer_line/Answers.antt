use Rattle.pt_engine.specs.Engines.{as_script}
use Rattle.pt_grammar.specs.Script.{script_of}
use Rattle.pt_check.proofs.Meeting.{met_line}
use Rattle.pt_check.proofs.due.answer_line.Goals as goal

pub returns-clause-ok : goal.returns-clause-ok
returns-clause-ok g c =
    met_line (as_script c.args.engine.now) (script_of c.args.line.now) c.of.result
    (as_script c.answer.new.self) c.new-text.result.items c.answer.new.out.items c.deref.result.now
    c.is_unmet.result c.of.ensures.value c.new-text.ensures.items c.in-Ok.ensures.ok
    c.deref.ensures.value c.is_unmet.ensures c.if-is_unmet.false
