use Rattle.pt_machine.proofs.machine.Machine.outcome.Goals as goal

pub outcome-requires : goal.outcome-requires
outcome-requires g c = rw c.self.view_is c.requires

pub returns : goal.returns
returns g c = rw (← c.self.view_is) c.outcome.ensures
