use Rattle.pt_engine.specs.Engines.{as_script}
use Rattle.pt_engine.proofs.Runs.{answers_none, answers_next, answers_same}
use Rattle.pt_engine.proofs.engine.Engine.answer_cut.Goals as goal

pub returns-in_ok-answer-in-Some-clause-ok : goal.returns-in_ok-answer-in-Some-clause-ok
returns-in_ok-answer-in-Some-clause-ok g c =
    let s = as_script c.args.self.now in
    let held = c.args.cutter.now in
    let out = c.args.out.now.items in
    answers_next held s out held s out c.next_script_line.new.self (as_script c.answer.new.self)
    c.answer.new.out.items c.in-Some.line (answers_none held s out) c.in-Some.ensures.some
    c.in_ok-answer-in-Some.ensures.ok

pub returns-in-None-clause-ok : goal.returns-in-None-clause-ok
returns-in-None-clause-ok g c =
    let s = as_script c.args.self.now in
    let held = c.args.cutter.now in
    let out = c.args.out.now.items in
    answers_same held s out held c.next_script_line.new.self s out (answers_none held s out)
    c.in-None.ensures.unchanged
