use Rattle.std.proofs.Common.{◌*◌}
use Rattle.pt_lanes.proofs.SetLemmas.{NoneFrom}
use Rattle.pt_lanes.proofs.kernel.highest.Given as goal

abbrev pub invariant-loop-block : goal.invariant-loop-block
invariant-loop-block l = NoneFrom l.counts (8 * l.block)
