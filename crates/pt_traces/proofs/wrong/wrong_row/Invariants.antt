use Rattle.std.proofs.Common.{◌≡◌, ◌+◌, suc, false, length}
use Rattle.pt_traces.specs.Rows.{rows}
use Rattle.pt_traces.specs.Blocks.{first_wrong}
use Rattle.pt_traces.proofs.wrong.wrong_row.Given as goal

abbrev pub invariant-loop-row : goal.invariant-loop-row
invariant-loop-row l = record {
  rest : first_wrong false 1 (rows l.trace) ≡ first_wrong l.has_line (suc l.number) l.rows;
  few : l.number + length l.rows ≡ length (rows l.trace);
}

abbrev pub decreases-loop-row : goal.decreases-loop-row
decreases-loop-row l = length l.rows
