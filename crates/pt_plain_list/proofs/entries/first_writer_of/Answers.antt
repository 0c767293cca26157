use Rattle.std.proofs.Common.{arith}
use Rattle.pt_plain_list.proofs.NextLemmas.{first_writer-next}
use Rattle.pt_plain_list.proofs.entries.first_writer_of.Goals as goal

pub loop-i-preserved : goal.loop-i-preserved
loop-i-preserved c =
    let i = c.loop-i.i in
    let e = c.index-entries-i.result in
    first_writer-next c.args.entries.now i c.args.object e c.loop-i.best
    c.first_writer_with-best.result
    (omega arith) c.index-entries-i.is c.loop-i.invariant c.first_writer_with-best.ensures
