use Rattle.std.proofs.Common.{sym, subst}
use Rattle.pt_state.specs.Reads.{AreTables}
use Rattle.pt_core.proofs.core_type.Core.answers_before.Goals as goal

pub answers_before-requires : goal.answers_before-requires
answers_before-requires g c = subst AreTables (sym c.deref.ensures) c.self.invariant.read
