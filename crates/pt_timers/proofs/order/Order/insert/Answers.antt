use Rattle.std.specs.BinaryHeap.{heap_items}
use Rattle.pt_timers.proofs.StaleLemmas.{more-live_keys}
use Rattle.pt_timers.proofs.OrderLemmas.{same-order}
use Rattle.pt_timers.proofs.order.Order.insert.Goals as goal

pub returns-clause-ok : goal.returns-clause-ok
returns-clause-ok g c =
    let o = c.self.inside in
    more-live_keys (heap_items o.keys)
    (heap_items o.canceled) c.args.self.now c.self.view_is c.args.key
    (heap_items c.insert.new.keys) (heap_items c.insert.new.canceled)
    (heap_items c.compact_if_sparse.new.keys) (heap_items c.compact_if_sparse.new.canceled)
    c.compact_if_sparse.ensures.live c.in_ok-insert.ensures.ok

pub insert-requires-clause-before : goal.insert-requires-clause-before
insert-requires-clause-before g c = c.self.invariant.before

pub invariant_of-self : goal.invariant_of-self
invariant_of-self g c =
    let o = c.self.inside in
    same-order (heap_items o.keys) (heap_items o.canceled) (heap_items c.insert.new.keys)
    (heap_items c.insert.new.canceled) o.last c.in_err-insert.ensures.unchanged
    c.in_err-insert.ensures.unchanged_canceled c.self.invariant

pub invariant_of-self-2 : goal.invariant_of-self-2
invariant_of-self-2 g c =
    let e = c.compact_if_sparse.ensures in
    record {
      heap = e.heap;
      canceled_heap = e.canceled;
      live_first = e.disjoint;
      before = λ q h. c.self.invariant.before q (c.insert.ensures.fewer q (e.fewer q h));
    }
