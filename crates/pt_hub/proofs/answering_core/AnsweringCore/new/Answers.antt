use Rattle.std.proofs.Common.{ap, subst, sym}
use Rattle.pt_legal.specs.Cores.{IsEmpty, CoreState, core_state}
use Rattle.pt_hub.proofs.AnsweringCoreLemmas.{desk-new}
use Rattle.pt_hub.proofs.answering_core.AnsweringCore.new.Goals as goal

pub invariant_of-result : goal.invariant_of-result
invariant_of-result g c =
    desk-new _ _ (subst (λ (k : CoreState). IsEmpty k) (sym
    (ap core_state c.new.ensures.0)) c.requires)
    c.new-2.ensures
