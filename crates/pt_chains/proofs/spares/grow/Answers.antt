use Rattle.pt_chains.specs.Chains.{HasNone}
use Rattle.pt_chains.proofs.GrowthLemmas.{each-more, if-err, on-err}
use Rattle.pt_chains.proofs.spares.grow.Goals as goal

pub returns-in_err-new_box-clause-len : goal.returns-in_err-new_box-clause-len
returns-in_err-new_box-clause-len g c =
    if-err c.from_residual-in_err-new_box.result _ c.from_residual-in_err-new_box.ensures.0

pub returns-in_err-reserve-clause-unchanged : goal.returns-in_err-reserve-clause-unchanged
returns-in_err-reserve-clause-unchanged g c =
    on-err c.from_residual.result _ c.reserve.ensures.len

pub returns-clause-empty : goal.returns-clause-empty
returns-clause-empty g c =
    each-more (λ b. HasNone b.value) c.args.spares.now.items c.reserve.new.self.items
    c.push_reserved.new.self.items c.in_ok-new_box.field-0 c.reserve.ensures.items
    c.push_reserved.ensures.items c.requires.empty c.in_ok-new_box.ensures
