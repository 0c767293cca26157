use Rattle.std.proofs.Common.{sym, subst}
use Rattle.pt_state.specs.Reads.{AreTables}
use Rattle.pt_core.proofs.core_type.Core.answer_of.Goals as goal

pub answer_of-requires : goal.answer_of-requires
answer_of-requires g c = subst AreTables (sym c.deref.ensures) c.self.invariant.read
