use Rattle.std.proofs.Common.{sym, ◌∙◌, below_more}
use Rattle.pt_model.specs.Histories.{history}
use Rattle.pt_model.specs.Moves.{wait_move, is_at_cond, precedes_by}
use Rattle.pt_readings.specs.Found.{unmoved}
use Rattle.pt_readings.proofs.Opens.{open-found, open-nowhere}
use Rattle.pt_readings.proofs.moves.+moves.Goals as goal

pub is_preceded-returns-then-waits_before : goal.is_preceded-returns-then-waits_before
is_preceded-returns-then-waits_before t c =
    let h = history c.args.entries.now in
    sym (open-found c.args.entries.now (λ v. precedes_by unmoved v c.args.w.now)
    (is_at_cond h (wait_move h) c.args.n.now) c.loop-i.i
    (sym c.waits_before.ensures ∙ c.if-waits_before.true))

pub is_preceded-loop-i-preserved : goal.is_preceded-loop-i-preserved
is_preceded-loop-i-preserved t c =
    below_more _ _ c.loop-i.invariant (sym c.waits_before.ensures ∙ c.if-waits_before.false)

pub is_preceded-returns : goal.is_preceded-returns
is_preceded-returns t c =
    let h = history c.args.entries.now in
    sym (open-nowhere c.args.entries.now (λ v. precedes_by unmoved v c.args.w.now)
    (is_at_cond h (wait_move h) c.args.n.now) c.loop-i.i c.loop-i-test.false c.loop-i.invariant)
