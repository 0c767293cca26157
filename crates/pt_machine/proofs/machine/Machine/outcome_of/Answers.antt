use Rattle.pt_machine.proofs.machine.Machine.outcome_of.Goals as goal

pub outcome_of-requires : goal.outcome_of-requires
outcome_of-requires g c = rw c.self.view_is c.requires

pub returns : goal.returns
returns g c = rw (← c.self.view_is) c.outcome_of.ensures
