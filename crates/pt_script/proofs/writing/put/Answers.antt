use Rattle.std.proofs.Common.{◌<◌, length, sym, subst, arith}
use Rattle.std.proofs.lemmas.Bool.Decides.{nat_tests}
use Rattle.pt_script.specs.Texts.{IsCutShort}
use Rattle.pt_script.proofs.Stops.{cut_short, told_fault}
use Rattle.pt_script.proofs.writing.put.Goals as goal

pub returns-in_err-n-clause-prefix : goal.returns-in_err-n-clause-prefix
returns-in_err-n-clause-prefix g c =
    let old = g.W.Sink.taken c.args.writer.now in
    let new = g.W.Sink.taken c.put_some.new.writer in
    let some : 0 < length c.loop-rest.rest.now = grind (arith, nat_tests) in
    told_fault c.from_residual.result c.in_err-n.field-0.0
    (λ fault. IsCutShort old c.args.bytes.now new) c.from_residual.ensures.1
    (subst (IsCutShort old c.args.bytes.now) (sym c.in_err-n.ensures.unchanged)
    (cut_short old c.args.bytes.now (g.W.Sink.taken c.loop-rest.writer) c.loop-rest.rest.now
    c.loop-rest.invariant.taken c.loop-rest.invariant.grows some))
