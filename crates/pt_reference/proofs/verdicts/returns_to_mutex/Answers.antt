use Rattle.std.proofs.Common.{sym, ◌∙◌, below_more, arith}
use Rattle.pt_model.specs.Verdicts.{returns_to_mutex}
use Rattle.pt_model.specs.Histories.{history}
use Rattle.pt_model.specs.Answers.{open_calls}
use Rattle.pt_model.proofs.Ascending.{any-at, any-nowhere}
use Rattle.pt_model.proofs.OpenOrder.{open-ascends}
use Rattle.pt_readings.proofs.Opens.{open-within}
use Rattle.pt_reference.proofs.verdicts.returns_to_mutex.Goals as goal

pub returns-then-returns_from : goal.returns-then-returns_from
returns-then-returns_from c =
    let h = history c.args.entries.now in
    sym (any-at (returns_to_mutex h c.args.m) c.loop-i.i (open_calls h)
    (sym c.returns_from.ensures ∙ c.if-returns_from.true))

pub loop-i-preserved : goal.loop-i-preserved
loop-i-preserved c =
    below_more _ _ c.loop-i.invariant (sym c.returns_from.ensures ∙ c.if-returns_from.false)

pub returns : goal.returns
returns c =
    let h = history c.args.entries.now in
    sym (any-nowhere (returns_to_mutex h c.args.m) 0 _ (open_calls h)
    (open-ascends h) (open-within c.args.entries.now)
    (λ k lt. c.loop-i.invariant k (omega arith)))
