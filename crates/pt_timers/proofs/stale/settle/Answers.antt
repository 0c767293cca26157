use Rattle.std.proofs.Common.{refl, ◌∙◌}
use Rattle.std.specs.BinaryHeap.{heap_len}
use Rattle.pt_timers.proofs.OrderLemmas.{no-more}
use Rattle.pt_timers.proofs.stale.settle.Goals as goal

pub loop-preserved : goal.loop-preserved
loop-preserved g c = (
  c.drop_stale.ensures.heap,
  c.drop_stale.ensures.canceled,
  λ q. c.drop_stale.ensures.live q ∙ c.loop.invariant.2 q,
  λ q h. c.loop.invariant.3 q (c.drop_stale.ensures.fewer q h),
  no-more (heap_len c.args.keys.now) (heap_len c.loop.keys) (heap_len c.drop_stale.new.keys)
      c.loop.invariant.4 c.drop_stale.ensures.len,
)

pub loop-smaller : goal.loop-smaller
loop-smaller g c = c.loop-test.ensures.smaller refl

pub returns-clause-live : goal.returns-clause-live
returns-clause-live g c = λ q. c.drop_stale.ensures.live q ∙ c.loop.invariant.2 q
