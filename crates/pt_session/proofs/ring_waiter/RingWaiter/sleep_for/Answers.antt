use Rattle.std.proofs.Common.{◌++◌, [], ◌∷◌, ap, ◌∙◌}
use Rattle.pt_session.proofs.SourceLemmas.{same_out}
use Rattle.pt_session.proofs.ring_waiter.RingWaiter.sleep_for.Goals as goal

pub returns-in-Ok-clause-next : goal.returns-in-Ok-clause-next
returns-in-Ok-clause-next g c =
    c.in-Ok.ensures.ok.0 ∙ ap (λ ls. ls ++ c.in-Ok.line ∷ []) c.loop.invariant.1

pub returns-then-is_over-clause-next : goal.returns-then-is_over-clause-next
returns-then-is_over-clause-next g c = c.in_default.ensures.empty.0 ∙ c.loop.invariant.1

pub loop-preserved : goal.loop-preserved
loop-preserved g c = (
  same_out c.args.ring.now c.loop.ring c.pop.new.self c.loop.invariant.0 c.pop.ensures.ring,
  c.in_default.ensures.empty.0 ∙ c.loop.invariant.1,
)
