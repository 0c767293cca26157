use Rattle.pt_machine.proofs.machine.Machine.answer_since.Goals as goal

pub answer_since-requires : goal.answer_since-requires
answer_since-requires g c = rw c.self.view_is c.requires
