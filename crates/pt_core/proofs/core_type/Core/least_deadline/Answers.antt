use Rattle.std.proofs.Common.{sym, subst}
use Rattle.pt_model.specs.StartRows.{start_of_rows}
use Rattle.pt_model.specs.Legal.{events_of}
use Rattle.pt_model.proofs.Legality.{history_since-settled}
use Rattle.pt_state.specs.Reads.{AreTables}
use Rattle.pt_core.proofs.core_type.Core.least_deadline.Goals as goal

pub least_deadline-requires-clause-quiet : goal.least_deadline-requires-clause-quiet
least_deadline-requires-clause-quiet g c =
    let s = c.self.inside.body.value.stored in
    rw c.deref.ensures
    (history_since-settled (start_of_rows s.start) s.entries
    (events_of s.entries) c.self.invariant.valid_store.starts
    c.self.invariant.valid_store.legal)

pub least_deadline-requires-clause-tables : goal.least_deadline-requires-clause-tables
least_deadline-requires-clause-tables g c =
    subst AreTables (sym c.deref.ensures) c.self.invariant.read
