use Rattle.std.proofs.Common.{◌-◌, ◌++◌, take, sym, ap, ◌∙◌, subst, append-nil, arith}
use Rattle.pt_session.specs.Outputs.{IsBroken, IsPartlyTaken}
use Rattle.pt_serve.proofs.Begun.{begun, grown, joined}
use Rattle.pt_serve.proofs.output.put.Goals as goal

pub returns-then-n-eq0-clause-begun : goal.returns-then-n-eq0-clause-begun
returns-then-n-eq0-clause-begun g c =
    let old = g.W.Sink.taken c.args.writer.now in
    let text = g.W.Sink.taken c.loop-rest.writer in
    let rest = c.loop-rest.rest.now in
    let same =
    c.put_some-n.ensures.taken.1
    ∙ ap (λ k. text ++ take k rest) c.if-n-eq0.true
    ∙ append-nil text in
    subst (IsPartlyTaken old c.args.bytes.now) (sym same)
    (begun old c.args.bytes.now text rest c.loop-rest.invariant.taken c.loop-rest.invariant.grows)

pub returns-then-n-eq0-clause-cause : goal.returns-then-n-eq0-clause-cause
returns-then-n-eq0-clause-cause g c = λ no.
    let new = c.put_some-n.new.writer in
    subst (λ k. IsBroken (g.W.Sink.failures new) (g.W.Sink.rejections new - k))
    c.loop-rest.invariant.accepted (c.put_some-n.ensures.broken c.if-n-eq0.true)

pub returns-clause-begun : goal.returns-clause-begun
returns-clause-begun g c =
    begun (g.W.Sink.taken c.args.writer.now) c.args.bytes.now (g.W.Sink.taken c.loop-rest.writer)
    c.loop-rest.rest.now c.loop-rest.invariant.taken c.loop-rest.invariant.grows

pub loop-rest-preserved : goal.loop-rest-preserved
loop-rest-preserved g c =
    let old = g.W.Sink.taken c.args.writer.now in
    let text = g.W.Sink.taken c.loop-rest.writer in
    let new = g.W.Sink.taken c.put_some-n.new.writer in
    let rest = c.loop-rest.rest.now in
    let n = c.put_some-n.result in
    let works = c.put_some-n.ensures.accepted (omega (arith, c.if-n-eq0.false)) in
    record {
      works = works.0;
      accepted = works.1 ∙ c.loop-rest.invariant.accepted;
      taken =
          joined old c.args.bytes.now text new rest n c.put_some-n.ensures.taken.1
          c.loop-rest.invariant.taken;
      grows =
          grown old text new (take n rest) c.put_some-n.ensures.taken.1
          c.loop-rest.invariant.grows;
    }
