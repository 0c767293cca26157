use Rattle.std.proofs.Common.{◌≡◌}
use Rattle.rtrb.specs.Ring.{received, SameConsumer}
use Rattle.pt_session.proofs.ring_waiter.RingWaiter.sleep_for.Given as goal

abbrev pub invariant-loop : goal.invariant-loop
invariant-loop g l = SameConsumer l.fn.ring l.ring × (received l.ring ≡ received l.fn.ring)
