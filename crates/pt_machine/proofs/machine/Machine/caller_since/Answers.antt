use Rattle.std.proofs.Common.{◌∙◌, sym}
use Rattle.pt_machine.proofs.OpenPlaces.{caller-stored}
use Rattle.pt_machine.proofs.machine.Machine.caller_since.Goals as goal

pub returns : goal.returns
returns g c =
    c.caller.ensures
    ∙ sym (caller-stored c.self.inside.state c.args.self.now c.self.view_is c.args.place
    c.requires)
