use Rattle.pt_engine.specs.Engines.{as_script}
use Rattle.pt_check.proofs.Comparing.{compares}
use Rattle.pt_check.proofs.checking.agrees.Goals as goal

pub returns-clause-ok : goal.returns-clause-ok
returns-clause-ok g c =
    compares (as_script c.args.engine.now) c.args.block.now c.line.result.now
    (as_script c.answer_line.new.engine) c.in_ok-due.due.items c.deref.result.now
    c.is_answered.result c.line.ensures c.in_ok-due.ensures.ok c.deref.ensures.value
    c.is_answered.ensures
