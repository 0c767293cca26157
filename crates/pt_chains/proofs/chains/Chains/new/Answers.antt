use Rattle.std.proofs.Common.{sym, subst}
use Rattle.std.specs.List.{AllByRecursion as Each}
use Rattle.pt_chains.specs.Chains.{HasNone}
use Rattle.pt_chains.proofs.MadeLemmas.{chains-none, boxes-none}
use Rattle.pt_chains.proofs.chains.Chains.new.Goals as goal

pub invariant_of-result : goal.invariant_of-result
invariant_of-result g c = (
  chains-none _ _ _ _ c.new.ensures c.new-2.ensures.empty c.new-3.ensures c.new-5.ensures,
  boxes-none _ _ _ _ _ c.new.ensures c.new-5.ensures c.new-4.ensures.len,
  subst (Each (λ b. HasNone b.value)) (sym c.new-4.ensures.items) tt,
)
