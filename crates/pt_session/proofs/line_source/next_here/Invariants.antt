use Rattle.std.proofs.Common.{◌≡◌}
use Rattle.rtrb.specs.Ring.{received, SameConsumer, SameProducer}
use Rattle.pt_session.proofs.line_source.next_here.Given as goal

abbrev pub invariant-loop : goal.invariant-loop
invariant-loop g l = record {
  producer : SameProducer l.fn.side.ring l.side.ring;
  mode : l.side.mode ≡ l.fn.side.mode;
  ring : SameConsumer l.fn.ring l.ring;
  same : received l.ring ≡ received l.fn.ring;
}
