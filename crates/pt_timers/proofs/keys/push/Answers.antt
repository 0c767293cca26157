use Rattle.std.specs.BinaryHeap.{heap_items}
use Rattle.pt_timers.proofs.KeyLemmas.{put-in}
use Rattle.pt_timers.proofs.keys.push.Goals as goal

pub returns-in-Ok-clause-ok : goal.returns-in-Ok-clause-ok
returns-in-Ok-clause-ok g c =
    put-in c.args.key.now (heap_items c.args.keys.now) (heap_items c.push.new.self)
    c.in-Ok.ensures.permutation
