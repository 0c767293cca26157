use Rattle.std.proofs.Common.{◌+◌, ◌-◌, ◌/◌, arith}
use Rattle.pt_rwlock.proofs.PlaceLemmas.{lower-before, other-behind, place-most}
use Rattle.pt_rwlock.proofs.rows.count_below.Goals as goal

pub loop-low-init : goal.loop-low-init
loop-low-init c = record {
  within = omega arith;
  above_low = omega arith;
  below_high = place-most c.args.rows.now c.args.client;
}

pub loop-low-preserved-then-rows-middle : goal.loop-low-preserved-then-rows-middle
loop-low-preserved-then-rows-middle c =
    let before = lower-before c.args.rows.now c.args.client
    (c.loop-low.low + (c.loop-low.high - c.loop-low.low) / 2) _ c.requires
    (omega (arith, c.loop-low.invariant.within, c.loop-low-test.true)) c.if-rows-middle.true in
    record {
      within = c.loop-low.invariant.within;
      above_low = omega (arith, before);
      below_high = c.loop-low.invariant.below_high;
    }

pub loop-low-preserved : goal.loop-low-preserved
loop-low-preserved c = record {
  within = omega (arith, c.loop-low.invariant.within, c.loop-low-test.true);
  above_low = c.loop-low.invariant.above_low;
  below_high = other-behind c.args.rows.now c.args.client
      (c.loop-low.low + (c.loop-low.high - c.loop-low.low) / 2) _
      (omega (arith, c.loop-low.invariant.within, c.loop-low-test.true)) c.if-rows-middle.false;
}
