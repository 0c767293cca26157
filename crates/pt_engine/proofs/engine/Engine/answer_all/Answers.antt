use Rattle.std.proofs.Common.{arith}
use Rattle.pt_engine.specs.Engines.{as_script}
use Rattle.pt_engine.proofs.Runs.{answers_few, answers_join}
use Rattle.pt_engine.proofs.engine.Engine.answer_all.Goals as goal

pub answer_next-requires : goal.answer_next-requires
answer_next-requires g c =
    let few = answers_few c.args.cutter.now (as_script c.args.self.now) c.args.out.now.items
    c.loop.cutter (as_script c.loop.self) c.loop.out.items c.loop.invariant in
    omega (arith, few)

pub loop-preserved : goal.loop-preserved
loop-preserved g c =
    answers_join c.args.cutter.now (as_script c.args.self.now) c.args.out.now.items c.loop.cutter
    (as_script c.loop.self) c.loop.out.items c.answer_next.new.cutter
    (as_script c.answer_next.new.self) c.answer_next.new.out.items c.loop.invariant
    c.in_ok-answer_next.ensures.ok

pub loop-smaller : goal.loop-smaller
loop-smaller g c = rw c.if-branch.true at c.in_ok-answer_next.ensures.fewer

pub returns-clause-ok : goal.returns-clause-ok
returns-clause-ok g c =
    answers_join c.args.cutter.now (as_script c.args.self.now) c.args.out.now.items c.loop.cutter
    (as_script c.loop.self) c.loop.out.items c.answer_next.new.cutter
    (as_script c.answer_next.new.self) c.answer_next.new.out.items c.loop.invariant
    c.in_ok-answer_next.ensures.ok

pub returns-clause-begun : goal.returns-clause-begun
returns-clause-begun g c = rw c.if-branch.false at c.in_ok-answer_next.ensures.begun
