use Rattle.std.specs.BinaryHeap.{heap_items, heap_len}
use Rattle.pt_timers.proofs.KeyLemmas.{popped}
use Rattle.pt_timers.proofs.keys.pop.Goals as goal

pub returns-clause-left : goal.returns-clause-left
returns-clause-left g c =
    popped (heap_items c.args.keys.now) (heap_items c.pop.new.self) c.args.first.now
    (heap_len c.args.keys.now) c.args.keys.now.data.ok.0 c.requires.first c.requires.heap
    c.pop.result c.pop.ensures.none c.pop.ensures.permutation c.pop.ensures.heap_order
