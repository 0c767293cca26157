use Rattle.pt_machine.proofs.machine.Machine.open_if_at.Goals as goal

pub open_of-requires : goal.open_of-requires
open_of-requires g c = rw c.self.view_is c.requires
