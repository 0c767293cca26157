use Rattle.pt_machine.proofs.machine.Machine.answer_at.Goals as goal

pub answer_at-requires : goal.answer_at-requires
answer_at-requires g c = rw c.self.view_is c.requires
