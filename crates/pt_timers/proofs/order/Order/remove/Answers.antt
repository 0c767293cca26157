use Rattle.std.specs.BinaryHeap.{heap_items, IsHeap}
use Rattle.pt_timers.proofs.StaleLemmas.{less-live_keys, one-out}
use Rattle.std.proofs.Common.{sym, ◌∙◌}
use Rattle.pt_timers.specs.Deadlines.{key_cmp, ComeBefore}
use Rattle.pt_timers.proofs.OrderLemmas.{found-first}
use Rattle.pt_timers.proofs.order.Order.remove.Goals as goal
use Rattle.pt_timers.proofs.order.Order.remove.Goals.{then-is_key, else-is_key}

pub returns : goal.returns
returns g c =
    let o = c.self.inside in
    let m = c.if-is_key.self-inside in
    elim c.if-is_key.branch [
      | then-is_key w ↦
          less-live_keys (heap_items o.keys) (heap_items o.canceled) c.args.self.now c.self.view_is
          c.args.key (heap_items m.keys) (heap_items m.canceled) (heap_items c.settle.new.keys)
          (heap_items c.settle.new.canceled) c.settle.ensures.live
          (rw w.self-inside-is
          (one-out (heap_items o.keys) (heap_items w.pop_all.new.keys) (heap_items o.canceled)
          c.args.key w.pop_all.ensures.left))
      | else-is_key w ↦
          less-live_keys (heap_items o.keys) (heap_items o.canceled) c.args.self.now c.self.view_is
          c.args.key (heap_items m.keys) (heap_items m.canceled) (heap_items c.settle.new.keys)
          (heap_items c.settle.new.canceled) c.settle.ensures.live
          (rw w.self-inside-is w.cancel.ensures.live)
    ]

pub cancel-requires-clause-before : goal.cancel-requires-clause-before
cancel-requires-clause-before g c = c.self.invariant.before

pub pop_all-requires-clause-first : goal.pop_all-requires-clause-first
pop_all-requires-clause-first g c =
    found-first (heap_items c.self.inside.keys) c.first_of-first.result c.args.key
    c.first_of-first.ensures (sym c.is_key.ensures ∙ c.if-is_key.true)

pub settle-requires-clause-heap : goal.settle-requires-clause-heap
settle-requires-clause-heap g c =
    elim c.if-is_key.branch as (λ _. IsHeap key_cmp (heap_items c.if-is_key.self-inside.keys)) [
      | then-is_key w ↦ rw w.self-inside-is w.pop_all.ensures.heap
      | else-is_key w ↦ rw w.self-inside-is w.cancel.ensures.heap
    ]

pub settle-requires-clause-canceled : goal.settle-requires-clause-canceled
settle-requires-clause-canceled g c =
    elim c.if-is_key.branch as (λ _. IsHeap key_cmp (heap_items c.if-is_key.self-inside.canceled)) [
      | then-is_key w ↦ rw w.self-inside-is c.self.invariant.canceled_heap
      | else-is_key w ↦ rw w.self-inside-is w.cancel.ensures.canceled
    ]

pub invariant_of-self : goal.invariant_of-self
invariant_of-self g c =
    let m = c.if-is_key.self-inside in
    let before =
    elim c.if-is_key.branch as (λ _. ComeBefore (heap_items m.canceled) m.last) [
      | then-is_key w ↦ rw w.self-inside-is c.self.invariant.before
      | else-is_key w ↦ rw w.self-inside-is w.cancel.ensures.before
    ] in
    record {
      heap = c.settle.ensures.heap;
      canceled_heap = c.settle.ensures.canceled;
      live_first = c.settle.ensures.disjoint;
      before = λ q h. before q (c.settle.ensures.fewer q h);
    }
