use Rattle.std.proofs.Common.{◌≡◌, length}
use Rattle.pt_traces.specs.Blocks.{blocks}
use Rattle.pt_traces.proofs.blocks.Blocks.next.Given as goal

abbrev pub invariant-loop-row : goal.invariant-loop-row
invariant-loop-row l = l.fn.self ≡ blocks l.self-inside.rows

abbrev pub decreases-loop-row : goal.decreases-loop-row
decreases-loop-row l = length l.self-inside.rows
