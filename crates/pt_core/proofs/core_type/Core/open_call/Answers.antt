use Rattle.std.proofs.Common.{sym, subst}
use Rattle.pt_state.specs.Reads.{AreTables}
use Rattle.pt_core.proofs.core_type.Core.open_call.Goals as goal

pub open_place-requires : goal.open_place-requires
open_place-requires g c = subst AreTables (sym c.deref.ensures) c.self.invariant.read
