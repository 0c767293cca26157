use Rattle.std.proofs.Common.{◌++◌, [], ◌∷◌, ap, ◌∙◌}
use Rattle.pt_session.proofs.SourceLemmas.{same_in, same_out}
use Rattle.pt_session.proofs.line_source.next_here.Goals as goal

pub returns-in-Ok-clause-next : goal.returns-in-Ok-clause-next
returns-in-Ok-clause-next g c =
    c.in-Ok.ensures.ok.0 ∙ ap (λ ls. ls ++ c.in-Ok.line ∷ []) c.loop.invariant.same

pub returns-then-has_ended-clause-next : goal.returns-then-has_ended-clause-next
returns-then-has_ended-clause-next g c = c.in_default.ensures.empty.0 ∙ c.loop.invariant.same

pub loop-preserved : goal.loop-preserved
loop-preserved g c = record {
  producer =
      same_in c.args.side.now.ring c.loop.side.ring c.step.new.self.ring
      c.loop.invariant.producer c.step.ensures.ring;
  mode = c.step.ensures.mode ∙ c.loop.invariant.mode;
  ring =
      same_out c.args.ring.now c.loop.ring c.pop.new.self c.loop.invariant.ring
      c.pop.ensures.ring;
  same = c.in_default.ensures.empty.0 ∙ c.loop.invariant.same;
}
