use Rattle.std.proofs.Common.{sym, ◌∙◌, below_more}
use Rattle.std.specs.Prelude.{◌==◌}
use Rattle.pt_model.specs.Moves.{wait_object}
use Rattle.pt_model.specs.Grants.{blocks_readers}
use Rattle.pt_model.specs.Histories.{history}
use Rattle.pt_readings.proofs.Opens.{open-found, open-nowhere}
use Rattle.pt_reference.proofs.grants.is_blocked.Goals as goal

pub returns-then-holds_back : goal.returns-then-holds_back
returns-then-holds_back c =
    let h = history c.args.entries.now in
    sym (open-found c.args.entries.now (λ v. blocks_readers v c.args.priority)
    (λ v. (wait_object h v == c.args.r)) c.loop-i.i
    (sym c.holds_back.ensures ∙ c.if-holds_back.true))

pub loop-i-preserved : goal.loop-i-preserved
loop-i-preserved c =
    below_more _ _ c.loop-i.invariant (sym c.holds_back.ensures ∙ c.if-holds_back.false)

pub returns : goal.returns
returns c =
    let h = history c.args.entries.now in
    sym (open-nowhere c.args.entries.now (λ v. blocks_readers v c.args.priority)
    (λ v. (wait_object h v == c.args.r)) c.loop-i.i c.loop-i-test.false c.loop-i.invariant)
