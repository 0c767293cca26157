use Rattle.std.proofs.Common.{◌∙◌, arith}
use Rattle.pt_model.specs.StartRows.{rows_of_start}
use Rattle.pt_machine.proofs.OpenPlaces.{caller-begun}
use Rattle.pt_machine.proofs.machine.Machine.caller_at.Goals as goal

pub returns : goal.returns
returns g c =
    c.caller_at.ensures
    ∙ caller-begun c.self.inside.state c.args.self.now c.self.view_is
    (rows_of_start c.start-start.result.now) c.start-start.ensures c.args.place
    (omega (arith, c.if-start-place.false))
