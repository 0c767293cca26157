use Rattle.std.proofs.Common.{sym, ◌∙◌}
use Rattle.std.proofs.lemmas.Bool.{false≢true}
use Rattle.std.specs.BinaryHeap.{heap_items, heap_len}
use Rattle.pt_timers.proofs.StaleLemmas.{junk-out, still-in, before-first, later-apart, stale-out}
use Rattle.pt_timers.proofs.OrderLemmas.{left-less, right-less}
use Rattle.pt_timers.proofs.OrderLemmas.{equal-same, greater-sooner, less-later}
use Rattle.pt_timers.proofs.KeyLemmas.{in-same}
use Rattle.pt_timers.proofs.stale.drop_stale.Goals as goal

pub returns-in_default-clause-smaller : goal.returns-in_default-clause-smaller
returns-in_default-clause-smaller g c = λ yes. absurd (false≢true yes)

pub returns-in_default-first_of-clause-heap : goal.returns-in_default-first_of-clause-heap
returns-in_default-first_of-clause-heap g c = c.requires.heap

pub returns-in_default-first_of-clause-canceled : goal.returns-in_default-first_of-clause-canceled
returns-in_default-first_of-clause-canceled g c = c.pop.ensures.heap

pub returns-in_default-first_of-clause-live : goal.returns-in_default-first_of-clause-live
returns-in_default-first_of-clause-live g c =
    junk-out (heap_items c.args.keys.now) (heap_items c.args.canceled.now)
    (heap_items c.pop.new.keys) c.in-Some.other c.pop.ensures.left
    (c.in_default-first_of.ensures c.in-Some.other)

pub returns-in_default-first_of-clause-fewer : goal.returns-in_default-first_of-clause-fewer
returns-in_default-first_of-clause-fewer g c =
    still-in (heap_items c.args.canceled.now) (heap_items c.pop.new.keys)
    (heap_items c.args.keys.now) c.in-Some.other c.pop.ensures.left

pub returns-in_default-first_of-clause-disjoint : goal.returns-in_default-first_of-clause-disjoint
returns-in_default-first_of-clause-disjoint g c = λ no. absurd (false≢true (sym no))

pub returns-in_default-first_of-clause-smaller : goal.returns-in_default-first_of-clause-smaller
returns-in_default-first_of-clause-smaller g c = λ yes.
    right-less (heap_len c.args.keys.now) (heap_len c.args.canceled.now)
    (heap_len c.pop.new.keys) c.pop.ensures.len

pub returns-in-Less-clause-smaller : goal.returns-in-Less-clause-smaller
returns-in-Less-clause-smaller g c = λ yes. absurd (false≢true yes)

pub returns-in-Equal-clause-canceled : goal.returns-in-Equal-clause-canceled
returns-in-Equal-clause-canceled g c = c.requires.canceled

pub returns-in-Equal-clause-disjoint : goal.returns-in-Equal-clause-disjoint
returns-in-Equal-clause-disjoint g c = λ no. absurd (false≢true (sym no))

pub returns-in-Equal-clause-smaller : goal.returns-in-Equal-clause-smaller
returns-in-Equal-clause-smaller g c = λ yes.
    left-less (heap_len c.args.keys.now) (heap_len c.args.canceled.now)
    (heap_len c.pop-in-Equal.new.keys) c.pop-in-Equal.ensures.len

pub returns-in-Greater-clause-heap : goal.returns-in-Greater-clause-heap
returns-in-Greater-clause-heap g c = c.requires.heap

pub returns-in-Greater-clause-fewer : goal.returns-in-Greater-clause-fewer
returns-in-Greater-clause-fewer g c =
    still-in (heap_items c.args.canceled.now) (heap_items c.pop-in-Greater.new.keys)
    (heap_items c.args.keys.now) c.in-Some.other c.pop-in-Greater.ensures.left

pub returns-in-Greater-clause-disjoint : goal.returns-in-Greater-clause-disjoint
returns-in-Greater-clause-disjoint g c = λ no. absurd (false≢true (sym no))

pub returns-in-Greater-clause-smaller : goal.returns-in-Greater-clause-smaller
returns-in-Greater-clause-smaller g c = λ yes.
    right-less (heap_len c.args.keys.now) (heap_len c.args.canceled.now)
    (heap_len c.pop-in-Greater.new.keys) c.pop-in-Greater.ensures.len

pub returns-in-Less-clause-disjoint : goal.returns-in-Less-clause-disjoint
returns-in-Less-clause-disjoint g c = λ _.
    later-apart (heap_items c.args.keys.now) (heap_items c.args.canceled.now)
    c.in-Some-first_of.first c.in-Some.other c.in-Some-first_of.ensures c.in-Some.ensures
    (less-later c.in-Some.other c.in-Some-first_of.first (sym c.cmp.ensures ∙ c.in-Less.is))

pub returns-in-Equal-clause-live : goal.returns-in-Equal-clause-live
returns-in-Equal-clause-live g c =
    let canceled = heap_items c.args.canceled.now in
    stale-out (heap_items c.args.keys.now) (heap_items c.pop-in-Equal.new.keys) canceled
    c.in-Some-first_of.first c.pop-in-Equal.ensures.left
    (sym (in-same canceled c.in-Some.other c.in-Some-first_of.first
    (equal-same c.in-Some.other c.in-Some-first_of.first (sym c.cmp.ensures ∙ c.in-Equal.is)))
    ∙ c.in-Some.ensures.0)

pub returns-in-Greater-clause-live : goal.returns-in-Greater-clause-live
returns-in-Greater-clause-live g c =
    junk-out (heap_items c.args.keys.now) (heap_items c.args.canceled.now)
    (heap_items c.pop-in-Greater.new.keys) c.in-Some.other c.pop-in-Greater.ensures.left
    (before-first (heap_items c.args.keys.now) c.in-Some-first_of.first c.in-Some.other
    c.in-Some-first_of.ensures
    (greater-sooner c.in-Some.other c.in-Some-first_of.first
    (sym c.cmp.ensures ∙ c.in-Greater.is)))
