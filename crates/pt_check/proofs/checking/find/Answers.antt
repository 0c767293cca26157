use Rattle.std.proofs.Common.{arith}
use Rattle.pt_engine.specs.Scripts.{empty_script}
use Rattle.pt_engine.specs.Engines.{as_script}
use Rattle.pt_check.proofs.Comparing.{compared_none, compared_few, compared_more, compared_all}
use Rattle.pt_check.proofs.Comparing.{compared_until}
use Rattle.pt_check.proofs.checking.find.Goals as goal

pub loop-block-init : goal.loop-block-init
loop-block-init g c =
    compared_none empty_script c.args.blocks (as_script c.args.engine.now) c.requires.new

pub agrees-requires : goal.agrees-requires
agrees-requires g c =
    let few =
    compared_few c.args.blocks c.loop-block.blocks c.loop-block.at (as_script c.loop-block.engine)
    c.in-Some.block c.next.new.self c.requires.within c.loop-block.invariant c.in-Some.ensures in
    omega (arith, few.0, few.1, c.requires.within)

pub overflow_add-at : goal.overflow_add-at
overflow_add-at g c =
    let few =
    compared_few c.args.blocks c.loop-block.blocks c.loop-block.at (as_script c.loop-block.engine)
    c.in-Some.block c.next.new.self c.requires.within c.loop-block.invariant c.in-Some.ensures in
    omega (arith, few.1, c.requires.within)

pub loop-block-preserved : goal.loop-block-preserved
loop-block-preserved g c =
    compared_more empty_script c.args.blocks c.loop-block.blocks c.loop-block.at
    (as_script c.loop-block.engine) c.in-Some.block c.next.new.self (as_script c.agrees.new.engine)
    c.in_ok-same.same c.loop-block.invariant c.in-Some.ensures c.in_ok-same.ensures.ok
    c.if-not-same.false

pub returns-then-not-same-clause-ok : goal.returns-then-not-same-clause-ok
returns-then-not-same-clause-ok g c =
    compared_until empty_script c.args.blocks c.loop-block.blocks c.loop-block.at
    (as_script c.loop-block.engine) c.in-Some.block c.next.new.self (as_script c.agrees.new.engine)
    c.in_ok-same.same c.loop-block.invariant c.in-Some.ensures c.in_ok-same.ensures.ok
    c.if-not-same.true

pub returns-clause-ok : goal.returns-clause-ok
returns-clause-ok g c = (
  as_script c.loop-block.engine,
  compared_all empty_script c.args.blocks c.loop-block.blocks c.loop-block.at
      (as_script c.loop-block.engine) c.loop-block.invariant c.in_default.ensures.0,
)
