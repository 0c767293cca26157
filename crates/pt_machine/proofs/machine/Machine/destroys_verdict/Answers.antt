use Rattle.std.proofs.Common.{sym, ◌∙◌}
use Rattle.pt_state.specs.Adds.{history_of}
use Rattle.pt_records.proofs.LockViews.{class-found}
use Rattle.pt_machine.proofs.machine.Machine.destroys_verdict.Goals as goal

pub end_verdict-requires-clause-class : goal.end_verdict-requires-clause-class
end_verdict-requires-clause-class g c =
    class-found (history_of c.args.self.now) c.requires.tables.follows c.args.n.now c.args.class
    c.in-Some.o
    (sym c.requires.found ∙ c.in-Some.is)
