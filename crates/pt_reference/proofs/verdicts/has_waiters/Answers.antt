use Rattle.std.proofs.Common.{sym, ◌∙◌, below_more, arith}
use Rattle.std.specs.Prelude.{◌==◌}
use Rattle.pt_model.specs.Moves.{wait_object}
use Rattle.pt_model.specs.Histories.{history}
use Rattle.pt_model.specs.Answers.{open_calls}
use Rattle.pt_model.proofs.Ascending.{any-at, any-nowhere}
use Rattle.pt_model.proofs.OpenOrder.{open-ascends}
use Rattle.pt_readings.proofs.Opens.{open-within}
use Rattle.pt_reference.proofs.verdicts.has_waiters.Goals as goal

pub returns-then-is_waiting_at : goal.returns-then-is_waiting_at
returns-then-is_waiting_at c =
    let h = history c.args.entries.now in
    sym (any-at (λ w. wait_object h w == c.args.o) c.loop-i.i (open_calls h)
    (sym c.is_waiting_at.ensures ∙ c.if-is_waiting_at.true))

pub loop-i-preserved : goal.loop-i-preserved
loop-i-preserved c =
    below_more _ _ c.loop-i.invariant (sym c.is_waiting_at.ensures ∙ c.if-is_waiting_at.false)

pub returns : goal.returns
returns c =
    let h = history c.args.entries.now in
    sym (any-nowhere (λ w. wait_object h w == c.args.o) 0 _ (open_calls h)
    (open-ascends h) (open-within c.args.entries.now)
    (λ k lt. c.loop-i.invariant k (omega arith)))
