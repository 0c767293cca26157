use Rattle.std.proofs.Common.{sym, ◌∙◌, below_more, arith}
use Rattle.pt_records.specs.OpenRows.{returns_to}
use Rattle.pt_records.proofs.RowLoops.{any-at, any-nowhere}
use Rattle.pt_records.proofs.cond.any_returns.Goals as goal

pub returns-then-returns_from : goal.returns-then-returns_from
returns-then-returns_from g c =
    sym (any-at (returns_to c.args.m) c.args.clients.now c.loop-i.i
    (sym c.returns_from.ensures ∙ c.if-returns_from.true))

pub loop-i-preserved : goal.loop-i-preserved
loop-i-preserved g c =
    below_more _ _ c.loop-i.invariant (sym c.returns_from.ensures ∙ c.if-returns_from.false)

pub returns : goal.returns
returns g c =
    sym (any-nowhere (returns_to c.args.m) c.args.clients.now
    (λ k lt. c.loop-i.invariant k (omega (arith, c.len-i-end.ensures.len))))
