use Rattle.pt_machine.proofs.machine.Machine.open_place.Goals as goal

pub open_place-requires : goal.open_place-requires
open_place-requires g c = rw c.self.view_is c.requires

pub returns : goal.returns
returns g c = rw (← c.self.view_is) c.open_place.ensures
