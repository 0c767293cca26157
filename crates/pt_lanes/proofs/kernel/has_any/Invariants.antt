use Rattle.std.proofs.Common.{◌≡◌, take, false}
use Rattle.std.specs.List.{list_any}
use Rattle.pt_lanes.specs.Counts.{is_set}
use Rattle.pt_lanes.proofs.kernel.has_any.Given as goal

abbrev pub invariant-loop-block : goal.invariant-loop-block
invariant-loop-block l = list_any (list_any is_set) (take l.block-index l.blocks) ≡ false
