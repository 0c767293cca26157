use Rattle.std.proofs.Common.{sym, ◌∙◌}
use Rattle.std.specs.BinaryHeap.{heap_items}
use Rattle.pt_timers.proofs.KeyLemmas.{gone, gone-again}
use Rattle.pt_timers.proofs.keys.pop_all.Goals as goal

pub returns-then-is_key-clause-left : goal.returns-then-is_key-clause-left
returns-then-is_key-clause-left g c =
    gone-again (heap_items c.args.keys.now) (heap_items c.pop.new.keys)
    (heap_items c.drop_key.new.keys) c.args.first.now c.pop.ensures.left c.drop_key.ensures.left

pub returns-else-is_key-clause-left : goal.returns-else-is_key-clause-left
returns-else-is_key-clause-left g c =
    gone (heap_items c.args.keys.now) (heap_items c.pop.new.keys) c.args.first.now
    c.first_of-next.result c.requires.first c.pop.ensures.left c.first_of-next.ensures
    (sym c.is_key.ensures ∙ c.if-is_key.false)
