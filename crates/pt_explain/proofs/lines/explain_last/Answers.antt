use Rattle.std.proofs.Common.{[]}
use Rattle.pt_grammar.specs.Lines.{lines_to_come}
use Rattle.pt_engine.specs.Engines.{as_script}
use Rattle.pt_explain.proofs.Saying.{on_ok}
use Rattle.pt_explain.proofs.Tellings.{last_some, last_none}
use Rattle.pt_explain.proofs.lines.explain_last.Goals as goal

pub returns-in-Some-clause-ok : goal.returns-in-Some-clause-ok
returns-in-Some-clause-ok g c =
    on_ok c.explain_line.result c.explain_line.ensures.ok
    (last_some (as_script c.args.engine.now) (lines_to_come c.args.cutter []) c.in-Some.cut
    c.args.out.now.items (as_script c.explain_line.new.engine) c.explain_line.new.out.items
    c.in-Some.ensures)

pub returns-in-None-clause-ok : goal.returns-in-None-clause-ok
returns-in-None-clause-ok g c =
    last_none (as_script c.args.engine.now) (lines_to_come c.args.cutter []) c.args.out.now.items
    c.in-None.ensures
