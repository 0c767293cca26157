use Rattle.pt_machine.proofs.machine.Machine.request.Goals as goal

pub request-requires : goal.request-requires
request-requires g c = rw c.self.view_is c.requires.tables
