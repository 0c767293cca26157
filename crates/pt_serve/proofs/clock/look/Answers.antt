use Rattle.std.proofs.Common.{◌∙◌, sym}
use Rattle.pt_serve.proofs.Looks.{due, looked}
use Rattle.pt_serve.proofs.clock.look.Goals as goal

pub returns-then-is_due : goal.returns-then-is_due
returns-then-is_due g c =
    looked c.moment.result c.args.clock c.args.reading c.in-Some.now c.args.pass.now
    c.moment.new.pass c.in-Some.ensures
    (due c.args.clock _ c.in-Some.now c.least_deadline.ensures.value
    (sym c.is_due.ensures ∙ c.if-is_due.true))
    c.moment.ensures.pass c.moment.ensures.unchanged
