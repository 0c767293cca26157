use Rattle.std.proofs.Common.{◌≡◌, None, refl, subst}
use Rattle.std.specs.Prelude.{Result, IfOk}
use Rattle.pt_types.specs.declared.outcome.Refusal.{Refusal}
use Rattle.pt_legal.specs.declared.applied.Applied.{Applied}
use Rattle.pt_hub.specs.AnsweringCores.{AnsweringCoreView}
use Rattle.pt_hub.proofs.AnsweringCoreLemmas.{desk-died, desk-hub_core}
use Rattle.pt_hub.proofs.CoresForEvents.{written-unsealed}
use Rattle.pt_hub.proofs.answering_core.AnsweringCore.die.Goals as goal

-- a Death never seals the history
pub returns-in-Ok-clause-unsealed : goal.returns-in-Ok-clause-unsealed
returns-in-Ok-clause-unsealed g c =
    subst (λ (r : Result Applied Refusal). IfOk r (λ a. a.sealed ≡ None)) c.in-Ok.is
    (c.apply.ensures.unsealed c.args.c refl)

pub returns-in-Ok-clause-some : goal.returns-in-Ok-clause-some
returns-in-Ok-clause-some g c =
    rw (← c.self.view_is)
    (written-unsealed _ _ _ c.in-Ok.applied c.in-Ok.ensures.ok
    (subst (λ (r : Result Applied Refusal). IfOk r (λ a. a.sealed ≡ None)) c.in-Ok.is
    (c.apply.ensures.unsealed c.args.c refl)))

pub invariant_of-self : goal.invariant_of-self
invariant_of-self g c =
    let core = c.self.inside.core in
    let old : AnsweringCoreView = record { core = core; accounts = c.self.inside.accounts.entries } in
    desk-died old _ _ c.self.invariant _ _ c.c.view_is c.in-Ok.applied
    (written-unsealed _ _ _ c.in-Ok.applied c.in-Ok.ensures.ok
    (subst (λ (r : Result Applied Refusal). IfOk r (λ a. a.sealed ≡ None)) c.in-Ok.is
    (c.apply.ensures.unsealed c.args.c refl)))
    c.erase.ensures

pub invariant_of-self-in-Err : goal.invariant_of-self-in-Err
invariant_of-self-in-Err g c =
    desk-hub_core _ _ _ c.in-Err.ensures.unchanged refl c.self.invariant
