use Rattle.pt_machine.proofs.machine.Machine.refusal.Goals as goal

pub refusal-requires : goal.refusal-requires
refusal-requires g c = rw c.self.view_is c.requires

pub returns : goal.returns
returns g c = rw (← c.self.view_is) c.refusal.ensures
