use Rattle.std.proofs.Common.{◌≡◌, ◌∙◌, sym, subst}
use Rattle.pt_check.specs.Agreements.{is_seen_once}
use Rattle.pt_check.proofs.Counting.{first_fails, first_passes}
use Rattle.pt_check.proofs.answered.is_each_seen.Goals as goal

pub returns-then-not-is_seen_once : goal.returns-then-not-is_seen_once
returns-then-not-is_seen_once c =
    sym
    (c.loop-row.invariant
    ∙ first_fails (is_seen_once c.args.block.now.seen) c.loop-row.due c.next.new.self
    c.in-Some.row.now c.of.result c.is_seen_once.result c.in-Some.ensures c.of.ensures
    (subst (λ s. c.is_seen_once.result ≡ is_seen_once s c.of.result) c.seen.ensures
    c.is_seen_once.ensures) c.if-not-is_seen_once.true)

pub loop-row-preserved : goal.loop-row-preserved
loop-row-preserved c =
    c.loop-row.invariant
    ∙ first_passes (is_seen_once c.args.block.now.seen) c.loop-row.due c.next.new.self
    c.in-Some.row.now c.of.result c.is_seen_once.result c.in-Some.ensures c.of.ensures
    (subst (λ s. c.is_seen_once.result ≡ is_seen_once s c.of.result) c.seen.ensures
    c.is_seen_once.ensures) c.if-not-is_seen_once.false
