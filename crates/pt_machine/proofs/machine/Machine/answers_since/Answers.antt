use Rattle.pt_machine.proofs.machine.Machine.answers_since.Goals as goal

pub answers_since-requires : goal.answers_since-requires
answers_since-requires g c = rw c.self.view_is c.requires
