use Rattle.std.proofs.Common.{sym, ap, subst, ◌∙◌}
use Rattle.std.specs.BinaryHeap.{IsHeap, heap_items}
use Rattle.pt_timers.specs.Deadlines.{is_in, key_cmp}
use Rattle.pt_timers.proofs.StaleLemmas.{one-in, put-apart}
use Rattle.pt_timers.proofs.OrderLemmas.{kept-out, none-taken, taken-from}
use Rattle.pt_timers.proofs.order.insert.Goals as goal

pub returns-then-key-last-clause-fewer : goal.returns-then-key-last-clause-fewer
returns-then-key-last-clause-fewer g c = λ q h.
    kept-out (heap_items c.args.canceled.now) (heap_items c.reserve.new.keys)
    (heap_items c.drop_key.new.keys) c.args.key.now c.reserve.ensures.items
    c.drop_key.ensures.left q h

pub returns-then-key-last-clause-ok : goal.returns-then-key-last-clause-ok
returns-then-key-last-clause-ok g c =
    one-in (heap_items c.args.keys.now) (heap_items c.push.new.keys)
    (heap_items c.args.canceled.now) (heap_items c.drop_key.new.keys) c.args.key.now
    c.in_ok-push.ensures.ok
    (taken-from (heap_items c.args.canceled.now) (heap_items c.reserve.new.keys)
    (heap_items c.drop_key.new.keys) c.args.key.now c.reserve.ensures.items
    c.drop_key.ensures.left)

pub returns-then-key-last-clause-disjoint : goal.returns-then-key-last-clause-disjoint
returns-then-key-last-clause-disjoint g c =
    put-apart (heap_items c.args.keys.now) (heap_items c.push.new.keys)
    (heap_items c.args.canceled.now) (heap_items c.drop_key.new.keys) c.args.key.now
    c.requires.disjoint
    c.in_ok-push.ensures.ok
    (taken-from (heap_items c.args.canceled.now) (heap_items c.reserve.new.keys)
    (heap_items c.drop_key.new.keys) c.args.key.now c.reserve.ensures.items
    c.drop_key.ensures.left)

pub returns-then-key-last-clause-heap : goal.returns-then-key-last-clause-heap
returns-then-key-last-clause-heap g c = c.push.ensures.heap

pub returns-then-key-last-clause-canceled : goal.returns-then-key-last-clause-canceled
returns-then-key-last-clause-canceled g c = c.drop_key.ensures.heap

pub returns-else-key-last-clause-heap : goal.returns-else-key-last-clause-heap
returns-else-key-last-clause-heap g c = c.push.ensures.heap

pub returns-else-key-last-clause-canceled : goal.returns-else-key-last-clause-canceled
returns-else-key-last-clause-canceled g c =
    subst (IsHeap key_cmp) (sym c.reserve.ensures.items) c.requires.canceled

pub returns-else-key-last-clause-fewer : goal.returns-else-key-last-clause-fewer
returns-else-key-last-clause-fewer g c = λ q h.
    sym (ap (λ ks. is_in ks q) c.reserve.ensures.items) ∙ h

pub returns-else-key-last-clause-ok : goal.returns-else-key-last-clause-ok
returns-else-key-last-clause-ok g c =
    one-in (heap_items c.args.keys.now) (heap_items c.push.new.keys)
    (heap_items c.args.canceled.now) (heap_items c.reserve.new.keys) c.args.key.now
    c.in_ok-push.ensures.ok
    (none-taken (heap_items c.args.canceled.now) (heap_items c.reserve.new.keys) c.args.last
    c.args.key.now c.reserve.ensures.items c.requires.before c.if-key-last.false)

pub returns-else-key-last-clause-disjoint : goal.returns-else-key-last-clause-disjoint
returns-else-key-last-clause-disjoint g c =
    put-apart (heap_items c.args.keys.now) (heap_items c.push.new.keys)
    (heap_items c.args.canceled.now) (heap_items c.reserve.new.keys) c.args.key.now
    c.requires.disjoint
    c.in_ok-push.ensures.ok
    (none-taken (heap_items c.args.canceled.now) (heap_items c.reserve.new.keys) c.args.last
    c.args.key.now c.reserve.ensures.items c.requires.before c.if-key-last.false)
