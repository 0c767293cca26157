use Rattle.std.proofs.Common.{sym, subst}
use Rattle.pt_state.specs.Reads.{AreTables}
use Rattle.pt_core.proofs.core_type.Core.answer.Goals as goal

pub answer-requires : goal.answer-requires
answer-requires g c = subst AreTables (sym c.deref.ensures) c.self.invariant.read
