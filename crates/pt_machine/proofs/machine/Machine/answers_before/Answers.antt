use Rattle.pt_machine.proofs.machine.Machine.answers_before.Goals as goal

pub answers_before-requires : goal.answers_before-requires
answers_before-requires g c = rw c.self.view_is c.requires
