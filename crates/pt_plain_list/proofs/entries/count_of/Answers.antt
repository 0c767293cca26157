use Rattle.std.proofs.Common.{arith}
use Rattle.pt_plain_list.proofs.NextLemmas.{count-next, count-bound}
use Rattle.pt_plain_list.proofs.entries.count_of.Goals as goal

pub loop-i-preserved : goal.loop-i-preserved
loop-i-preserved c =
    let i = c.loop-i.i in
    let e = c.index-entries-i.result in
    let count = c.loop-i.count in
    let next = c.count_with-count.result in
    let step = c.count_with-count.ensures in
    let before = c.loop-i.invariant in (
      count-next c.args.entries.now i c.args.object e count next
          (omega arith) c.index-entries-i.is before.0 step,
      count-bound _ count i next before.1 step,
    )
