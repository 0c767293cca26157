use Rattle.std.proofs.Common.{sym, ◌∙◌}
use Rattle.pt_state.specs.Adds.{history_of}
use Rattle.pt_records.proofs.LockViews.{cond-found}
use Rattle.pt_machine.proofs.machine.Machine.change_by_signal.Goals as goal

pub waiting-requires-clause-cond : goal.waiting-requires-clause-cond
waiting-requires-clause-cond g c =
    cond-found (history_of c.args.self.now) c.requires.tables.follows c.args.n.now c.in-Some.q
    (sym c.requires.found ∙ c.in-Some.is)

pub bound-requires-clause-cond : goal.bound-requires-clause-cond
bound-requires-clause-cond g c =
    cond-found (history_of c.args.self.now) c.requires.tables.follows c.args.n.now c.in-Some.q
    (sym c.requires.found ∙ c.in-Some.is)
