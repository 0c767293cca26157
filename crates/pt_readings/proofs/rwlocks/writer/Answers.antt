use Rattle.std.proofs.Common.{sym, ◌∙◌, arith, below_more}
use Rattle.pt_model.specs.Rwlocks.{is_writer}
use Rattle.pt_model.specs.Histories.{history, place}
use Rattle.pt_readings.proofs.Prefix.{place_all}
use Rattle.pt_model.proofs.FirstBelow.{first_below-none, first_below-at}
use Rattle.pt_readings.proofs.rwlocks.writer.Goals as goal

pub returns-then-writes : goal.returns-then-writes
returns-then-writes c =
    let h = history c.args.entries.now in
    sym (first_below-at (λ k. is_writer h c.args.r k) (place h) c.loop-i.i
    (omega (arith, place_all c.args.entries.now)) c.loop-i.invariant
    (sym c.writes.ensures ∙ c.if-writes.true))

pub loop-i-preserved : goal.loop-i-preserved
loop-i-preserved c =
    below_more _ _ c.loop-i.invariant (sym c.writes.ensures ∙ c.if-writes.false)

pub returns : goal.returns
returns c =
    let h = history c.args.entries.now in
    sym (first_below-none (λ k. is_writer h c.args.r k) (place h)
    (λ k lt. c.loop-i.invariant k (omega (arith, place_all c.args.entries.now))))
