use Rattle.std.proofs.Common.{sym, subst}
use Rattle.pt_state.specs.Reads.{AreTables}
use Rattle.pt_core.proofs.core_type.Core.outcome.Goals as goal

pub outcome-requires : goal.outcome-requires
outcome-requires g c = subst AreTables (sym c.deref.ensures) c.self.invariant.read
