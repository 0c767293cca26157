use Rattle.std.proofs.Common.{sym, ap, ◌∙◌, arith, below_more}
use Rattle.std.specs.Prelude.{nat_lt}
use Rattle.std.proofs.lemmas.Bool.{lt-ltb, le-ltb}
use Rattle.pt_model.specs.Histories.{history, place}
use Rattle.pt_model.specs.Mutexes.{mutex_count}
use Rattle.pt_readings.proofs.Prefix.{place_all}
use Rattle.pt_model.proofs.FirstBelow.{first_below-none, first_below-at}
use Rattle.pt_readings.proofs.mutexes.owner.Goals as goal

pub returns-then-count-gt0 : goal.returns-then-count-gt0
returns-then-count-gt0 c =
    let h = history c.args.entries.now in
    sym (first_below-at (λ k. nat_lt 0 (mutex_count h c.args.m k)) (place h) c.loop-i.i
    (omega (arith, place_all c.args.entries.now)) c.loop-i.invariant
    (ap (nat_lt 0) (sym c.count.ensures) ∙ lt-ltb 0 c.count.result c.if-count-gt0.true))

pub loop-i-preserved : goal.loop-i-preserved
loop-i-preserved c =
    below_more _ _ c.loop-i.invariant
    (ap (nat_lt 0) (sym c.count.ensures) ∙ le-ltb 0 c.count.result c.if-count-gt0.false)

pub returns : goal.returns
returns c =
    let h = history c.args.entries.now in
    sym (first_below-none (λ k. nat_lt 0 (mutex_count h c.args.m k)) (place h)
    (λ k lt. c.loop-i.invariant k (omega (arith, place_all c.args.entries.now))))
