use Rattle.std.proofs.Common.{sym, ap, filter, ◌∙◌, below_more}
use Rattle.std.specs.Prelude.{not, ◌==◌}
use Rattle.std.specs.List.{list_all}
use Rattle.pt_model.specs.Histories.{history}
use Rattle.pt_model.specs.Answers.{open_calls}
use Rattle.pt_model.specs.Moves.{wait_object, precedes}
use Rattle.pt_readings.proofs.Opens.{all-found, all-nowhere}
use Rattle.pt_readings.proofs.moves.is_least.Goals as goal

pub returns-then-is_ahead : goal.returns-then-is_ahead
returns-then-is_ahead c =
    let h = history c.args.entries.now in
    let w = c.args.w.now in
    sym (ap
    (λ o. list_all (λ v. not (precedes h v w)) (filter (λ v. wait_object h v == o) (open_calls h)))
    (sym c.wait_object-o.ensures)
    ∙ all-found c.args.entries.now (λ v. precedes h v w)
    (λ v. wait_object h v == c.wait_object-o.result) c.loop-i.i
    (sym c.is_ahead.ensures ∙ c.if-is_ahead.true))

pub loop-i-preserved : goal.loop-i-preserved
loop-i-preserved c =
    below_more _ _ c.loop-i.invariant (sym c.is_ahead.ensures ∙ c.if-is_ahead.false)

pub returns : goal.returns
returns c =
    let h = history c.args.entries.now in
    let w = c.args.w.now in
    sym (ap
    (λ o. list_all (λ v. not (precedes h v w)) (filter (λ v. wait_object h v == o) (open_calls h)))
    (sym c.wait_object-o.ensures)
    ∙ all-nowhere c.args.entries.now (λ v. precedes h v w)
    (λ v. wait_object h v == c.wait_object-o.result) c.loop-i.i c.loop-i-test.false
    c.loop-i.invariant)
