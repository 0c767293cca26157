use Rattle.std.proofs.Common.{ap, arith}
use Rattle.pt_legal.specs.Cores.{core_state}
use Rattle.pt_core.proofs.RunningLemmas.{runs-none, runs-all, runs-more, runs-stopped}
use Rattle.pt_core.proofs.core_type.Core.run.Goals as goal

pub loop-at-init : goal.loop-at-init
loop-at-init g c = runs-none (core_state c.args.self.now) c.args.events.now

pub returns-in-Err-clause-stopped : goal.returns-in-Err-clause-stopped
returns-in-Err-clause-stopped g c =
    runs-stopped (core_state c.args.self.now) (core_state c.loop-at.self)
    (core_state c.apply.new.self)
    c.args.events.now c.loop-at.at
    c.index-events-at.result c.copied.result
    c.loop-at-test.true c.index-events-at.is c.copied.ensures c.loop-at.invariant
    c.in-Err.refusal c.in-Err.ensures.err (ap core_state c.in-Err.ensures.unchanged)

pub loop-at-preserved : goal.loop-at-preserved
loop-at-preserved g c =
    runs-more (core_state c.args.self.now) (core_state c.loop-at.self) (core_state c.apply.new.self)
    c.args.events.now c.loop-at.at
    c.index-events-at.result c.copied.result
    c.loop-at-test.true c.index-events-at.is c.copied.ensures c.loop-at.invariant
    (record {
      accepted = c.in_default.ensures.ok.accepted;
      writes = c.in_default.ensures.ok.written.writes;
    })

pub returns-clause-ok : goal.returns-clause-ok
returns-clause-ok g c =
    runs-all (core_state c.args.self.now) (core_state c.loop-at.self) c.args.events.now c.loop-at.at
    (omega (
      arith,
      c.loop-at-test.false,
    )) c.loop-at.invariant
