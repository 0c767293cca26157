use Rattle.std.proofs.Common.{subst}
use Rattle.pt_session.specs.Outputs.{IsPartlyTaken}
use Rattle.pt_serve.specs.Served.{closed_line}
use Rattle.pt_serve.proofs.Begun.{closed_begun, none_begun, on_err, ready_begun}
use Rattle.pt_serve.proofs.server.serve.Goals as goal

pub returns-in-Err-clause-unchanged : goal.returns-in-Err-clause-unchanged
returns-in-Err-clause-unchanged g c = on_err _ _ (none_begun (g.W.Sink.taken c.args.out.now))

pub returns-in-Err-say_ready-clause-unchanged : goal.returns-in-Err-say_ready-clause-unchanged
returns-in-Err-say_ready-clause-unchanged g c =
    on_err _ _
    (ready_begun (g.W.Sink.taken c.args.out.now) (g.W.Sink.taken c.say_ready.new.out)
    c.say_ready.ensures.begun)

pub returns-in-Err-say_closed-clause-unchanged : goal.returns-in-Err-say_closed-clause-unchanged
returns-in-Err-say_closed-clause-unchanged g c =
    let old = g.W.Sink.taken c.args.out.now in
    let new = g.W.Sink.taken c.say_closed.new.out in
    let outer = c.in-Ok-end.closed.outer in
    on_err _ _
    (closed_begun old new outer
    (subst (λ text. IsPartlyTaken text (closed_line outer) new) c.in_default.ensures.ok.0
    c.say_closed.ensures.begun))
