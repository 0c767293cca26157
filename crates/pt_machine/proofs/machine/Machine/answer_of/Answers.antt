use Rattle.pt_machine.proofs.machine.Machine.answer_of.Goals as goal

pub answer_of-requires : goal.answer_of-requires
answer_of-requires g c = rw c.self.view_is c.requires

pub returns : goal.returns
returns g c = rw (← c.self.view_is) c.answer_of.ensures
