use Rattle.pt_machine.proofs.machine.Machine.bound.Goals as goal

pub bound_at-requires-clause-tables : goal.bound_at-requires-clause-tables
bound_at-requires-clause-tables g c = rw c.self.view_is c.requires.tables

pub bound_at-requires-clause-cond : goal.bound_at-requires-clause-cond
bound_at-requires-clause-cond g c = rw c.self.view_is c.requires.cond

pub returns : goal.returns
returns g c = rw (← c.self.view_is) c.bound_at.ensures
