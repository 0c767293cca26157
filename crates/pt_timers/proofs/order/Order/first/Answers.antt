use Rattle.std.specs.BinaryHeap.{heap_items}
use Rattle.pt_timers.proofs.StaleLemmas.{live_keys-first}
use Rattle.pt_timers.proofs.order.Order.first.Goals as goal

pub returns : goal.returns
returns g c =
    let o = c.self.inside in
    live_keys-first (heap_items o.keys) (heap_items o.canceled) c.args.self.now c.first_of.result
    c.self.view_is c.self.invariant.live_first c.first_of.ensures
