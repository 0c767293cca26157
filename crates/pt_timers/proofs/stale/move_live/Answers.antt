use Rattle.std.proofs.Common.{◌||◌, sym, ap, ◌∙◌}
use Rattle.std.specs.BinaryHeap.{heap_items, heap_len, heap_capacity}
use Rattle.pt_timers.specs.Deadlines.{is_in, is_live}
use Rattle.pt_timers.proofs.OrderLemmas.{moved-on, none-live, on-done, room-kept, room-left}
use Rattle.pt_timers.proofs.stale.move_live.Goals as goal

pub loop-first-init : goal.loop-first-init
loop-first-init g c = (
  c.requires.heap,
  c.requires.canceled,
  c.requires.disjoint,
  c.requires.empty,
  λ q. ap (λ b. b || is_live (heap_items c.args.keys.now) (heap_items c.args.canceled.now) q)
      (c.requires.none q),
  c.requires.room,
)

pub loop-first-preserved : goal.loop-first-preserved
loop-first-preserved g c =
    let i = c.loop-first.invariant in
    let room =
    room-left (heap_len c.loop-first.live) (heap_len c.loop-first.keys) (heap_len c.pop.new.keys)
    (heap_len c.settle.new.keys) (heap_capacity c.loop-first.live) i.5 c.pop.ensures.len
    c.settle.ensures.len in
    let done = c.push.ensures.succeeds room.0 in (
      c.settle.ensures.heap,
      c.settle.ensures.canceled,
      c.settle.ensures.disjoint,
      c.push.ensures.heap,
      λ q.
          moved-on (heap_items c.loop-first.keys) (heap_items c.pop.new.keys)
          (heap_items c.loop-first.canceled) (heap_items c.settle.new.keys)
          (heap_items c.settle.new.canceled) (heap_items c.loop-first.live)
          (heap_items c.push.new.keys) c.in-Some.first (i.2 c.in-Some.first c.in-Some.ensures)
          c.pop.ensures.left c.settle.ensures.live (on-done c.push.result done c.push.ensures.ok) q
          ∙ i.4 q,
      room-kept (heap_len c.loop-first.live) (heap_len c.settle.new.keys)
          (heap_len c.push.new.keys) (heap_capacity c.loop-first.live)
          (heap_capacity c.push.new.keys) room.1 (on-done c.push.result done c.push.ensures.len)
          c.push.ensures.capacity,
    )

pub returns-clause-live : goal.returns-clause-live
returns-clause-live g c = λ q.
    sym (none-live (is_in (heap_items c.loop-first.live) q)
    (is_in (heap_items c.loop-first.canceled) q) (is_in (heap_items c.loop-first.keys) q)
    (c.in_default.ensures q))
    ∙ c.loop-first.invariant.4 q
