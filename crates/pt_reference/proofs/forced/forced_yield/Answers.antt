use Rattle.std.proofs.Common.{sym, ap, ◌∙◌, arith, below_more}
use Rattle.pt_model.specs.Forced.{is_orphan, yield_if}
use Rattle.pt_model.specs.Histories.{history, place}
use Rattle.pt_readings.proofs.Prefix.{place_all}
use Rattle.pt_model.proofs.FirstBelow.{first_below-none, first_below-at}
use Rattle.pt_reference.proofs.forced.forced_yield.Goals as goal

pub returns-then-is_orphan : goal.returns-then-is_orphan
returns-then-is_orphan c =
    let h = history c.args.entries.now in
    sym (ap yield_if (first_below-at (λ k. is_orphan h k) (place h) c.loop-i.i
    (omega (arith, place_all c.args.entries.now)) c.loop-i.invariant
    (sym c.is_orphan.ensures ∙ c.if-is_orphan.true)))

pub loop-i-preserved : goal.loop-i-preserved
loop-i-preserved c =
    below_more _ _ c.loop-i.invariant (sym c.is_orphan.ensures ∙ c.if-is_orphan.false)

pub returns : goal.returns
returns c =
    let h = history c.args.entries.now in
    sym (ap yield_if (first_below-none (λ k. is_orphan h k) (place h)
    (λ k lt. c.loop-i.invariant k (omega (arith, place_all c.args.entries.now)))))
