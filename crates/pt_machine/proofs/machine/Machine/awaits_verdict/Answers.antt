use Rattle.std.proofs.Common.{sym, ◌∙◌}
use Rattle.pt_state.specs.Adds.{history_of}
use Rattle.pt_records.proofs.LockViews.{cond-found}
use Rattle.pt_machine.proofs.machine.Machine.awaits_verdict.Goals as goal

pub condition-requires-clause-cond : goal.condition-requires-clause-cond
condition-requires-clause-cond g c =
    cond-found (history_of c.args.self.now) c.requires.tables.follows c.args.n.now c.in-Some.q
    (sym c.requires.object ∙ c.in-Some.is)

pub mutex_found-requires-clause-tables : goal.mutex_found-requires-clause-tables
mutex_found-requires-clause-tables g c = rw c.self.view_is c.requires.tables

pub mutex_found-requires-clause-found : goal.mutex_found-requires-clause-found
mutex_found-requires-clause-found g c = rw c.self.view_is c.requires.mutex
