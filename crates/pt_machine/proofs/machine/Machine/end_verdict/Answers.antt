use Rattle.std.proofs.Common.{Some, ap, ◌∙◌}
use Rattle.pt_machine.proofs.machine.Machine.end_verdict.Goals as goal

pub returns_to_mutex-returns-requires : goal.returns_to_mutex-returns-requires
returns_to_mutex-returns-requires g c = rw c.self.view_is c.requires.tables

pub mutex_end_verdict-requires-clause-tables : goal.mutex_end_verdict-requires-clause-tables
mutex_end_verdict-requires-clause-tables g c = rw c.self.view_is c.requires.tables

pub mutex_end_verdict-requires-clause-class : goal.mutex_end_verdict-requires-clause-class
mutex_end_verdict-requires-clause-class g c =
    rw c.self.view_is
    (c.requires.class ∙ ap Some c.in-Mutex.is)

pub has_living_holder-requires-clause-tables : goal.has_living_holder-requires-clause-tables
has_living_holder-requires-clause-tables g c = rw c.self.view_is c.requires.tables
