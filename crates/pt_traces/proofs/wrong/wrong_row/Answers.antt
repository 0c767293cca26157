use Rattle.std.proofs.Common.{arith}
use Rattle.pt_traces.proofs.RowLemmas.{rows-few}
use Rattle.pt_traces.proofs.BlockLemmas.{fewer}
use Rattle.pt_traces.proofs.wrong.wrong_row.Goals as goal

pub overflow_add-number : goal.overflow_add-number
overflow_add-number c =
    let one = fewer c.loop-row.rows c.next.new.self c.in-Some.row.now c.in-Some.ensures in
    omega (arith, rows-few c.args.trace.now, c.loop-row.invariant.few, one)
