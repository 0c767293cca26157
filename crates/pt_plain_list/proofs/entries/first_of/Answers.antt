use Rattle.std.proofs.Common.{arith}
use Rattle.pt_plain_list.proofs.NextLemmas.{first-next}
use Rattle.pt_plain_list.proofs.entries.first_of.Goals as goal

pub loop-i-preserved : goal.loop-i-preserved
loop-i-preserved c =
    let i = c.loop-i.i in
    let e = c.index-entries-i.result in
    first-next c.args.entries.now i c.args.object e c.loop-i.best c.first_with-best.result
    (omega arith) c.index-entries-i.is c.loop-i.invariant c.first_with-best.ensures
