use Rattle.std.proofs.Common.{take}
use Rattle.pt_legal.specs.Cores.{core_state}
use Rattle.pt_core.specs.Running.{Runs}
use Rattle.pt_core.proofs.core_type.Core.run.Given as goal

abbrev pub invariant-loop-at : goal.invariant-loop-at
invariant-loop-at g l = Runs (core_state l.fn.self) (take l.at l.events) (core_state l.self)
