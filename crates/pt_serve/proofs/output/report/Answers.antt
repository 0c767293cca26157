use Rattle.std.proofs.Common.{◌≡◌, subst}
use Rattle.pt_session.specs.Outputs.{output_view}
use Rattle.pt_serve.specs.Faults.{serve_report}
use Rattle.pt_serve.specs.Served.{IsReported}
use Rattle.pt_serve.proofs.Begun.{reported}
use Rattle.pt_serve.proofs.output.report.Goals as goal

pub returns : goal.returns
returns g c =
    let old = g.W.Sink.taken c.args.errors.now in
    let seen =
    output_view g.W.Sink.taken g.W.Sink.flushed g.W.Sink.failures g.W.Sink.rejections
    c.args.errors.now c.say.new.out in
    let same : c.as_slice.result.now ≡ serve_report c.args.fault = cc in
    subst (λ line. IsReported old line seen) same
    (reported _ _ c.say.result old c.as_slice.result.now seen c.say.ensures.ok
    c.say.ensures.begun c.say.ensures.cause)
