use Rattle.std.proofs.Common.{arith}
use Rattle.pt_engine.specs.Engines.{as_script}
use Rattle.pt_explain.proofs.Tellings.{told_few, told_join, told_none}
use Rattle.pt_explain.proofs.lines.explain_all.Goals as goal

pub loop-answers-init : goal.loop-answers-init
loop-answers-init g c = told_none c.args.cutter.now
    (as_script c.args.engine.now) c.args.out.now.items

pub explain_next-requires : goal.explain_next-requires
explain_next-requires g c =
    let few = told_few c.args.cutter.now (as_script c.args.engine.now) c.args.out.now.items
    c.loop-answers.cutter (as_script c.loop-answers.engine) c.loop-answers.out.items
    c.loop-answers.invariant in
    omega (arith, few)

pub loop-answers-preserved : goal.loop-answers-preserved
loop-answers-preserved g c =
    told_join c.args.cutter.now (as_script c.args.engine.now) c.args.out.now.items
    c.loop-answers.cutter
    (as_script c.loop-answers.engine) c.loop-answers.out.items c.explain_next.new.cutter
    (as_script c.explain_next.new.engine) c.explain_next.new.out.items c.loop-answers.invariant
    c.in_ok-explain_next.ensures.ok

pub loop-answers-smaller : goal.loop-answers-smaller
loop-answers-smaller g c = rw c.if-branch.true at c.in_ok-explain_next.ensures.fewer

pub returns-clause-ok : goal.returns-clause-ok
returns-clause-ok g c =
    told_join c.args.cutter.now (as_script c.args.engine.now) c.args.out.now.items
    c.loop-answers.cutter
    (as_script c.loop-answers.engine) c.loop-answers.out.items c.explain_next.new.cutter
    (as_script c.explain_next.new.engine) c.explain_next.new.out.items c.loop-answers.invariant
    c.in_ok-explain_next.ensures.ok

pub returns-clause-begun : goal.returns-clause-begun
returns-clause-begun g c = rw c.if-branch.false at c.in_ok-explain_next.ensures.begun
