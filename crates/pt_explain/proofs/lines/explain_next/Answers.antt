use Rattle.pt_engine.specs.Engines.{as_script}
use Rattle.pt_explain.proofs.Tellings.{told_one, told_same}
use Rattle.pt_explain.proofs.lines.explain_next.Goals as goal

pub returns-in_ok-explain_line-in-Some-clause-ok : goal.returns-in_ok-explain_line-in-Some-clause-ok
returns-in_ok-explain_line-in-Some-clause-ok g c =
    told_one c.args.cutter.now c.next_line.new.self (as_script c.args.engine.now)
    (as_script c.explain_line.new.engine) c.args.out.now.items c.explain_line.new.out.items
    c.in-Some.cut c.in-Some.ensures.given c.in_ok-explain_line-in-Some.ensures.ok

pub returns-in-None-clause-ok : goal.returns-in-None-clause-ok
returns-in-None-clause-ok g c =
    told_same c.args.cutter.now c.next_line.new.self (as_script c.args.engine.now)
    c.args.out.now.items c.in-None.ensures.given
