use Rattle.std.proofs.Common.{rules}
use Rattle.std.specs.BinaryHeap.{heap_items}
use Rattle.pt_timers.proofs.KeyLemmas.{head-first}
use Rattle.pt_timers.proofs.keys.first_of.Goals as goal

pub returns-in-Some : goal.returns-in-Some
returns-in-Some g c =
    head-first (heap_items c.args.keys.now) c.in-Some.first.now (search rules)
    c.in-Some.ensures.lookup (c.in-Some.ensures.greatest c.requires)
