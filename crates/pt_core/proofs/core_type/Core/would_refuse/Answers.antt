use Rattle.std.proofs.Common.{sym, subst}
use Rattle.pt_core.specs.ValidStates.{IsValidState}
use Rattle.pt_core.proofs.core_type.Core.would_refuse.Goals as goal

pub would_refuse-requires : goal.would_refuse-requires
would_refuse-requires g c = subst IsValidState (sym c.deref.ensures) c.self.invariant
