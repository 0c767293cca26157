use Rattle.std.proofs.Common.{refl, subst}
use Rattle.pt_model.specs.declared.entry.Event.TheVariants as event
use Rattle.pt_legal.specs.Cores.{core_state}
use Rattle.pt_legal.specs.Applying.{IsApplied}
use Rattle.pt_hub.specs.AnsweringCores.{AnsweringCoreView, hub_core}
use Rattle.pt_hub.proofs.AnsweringCoreLemmas.{desk-alike, desk-hub_core}
use Rattle.pt_hub.proofs.KnownRefusals.{memory-lacks}
use Rattle.pt_hub.proofs.CoresForEvents.{desk-ticked, rows-core_for_event}
use Rattle.pt_hub.proofs.answering_core.AnsweringCore.moment.Goals as goal

pub invariant_of-self : goal.invariant_of-self
invariant_of-self g c =
    desk-ticked _ _ _ _ c.args.clock c.args.moment c.in-Ok.applied c.in-Ok.ensures.ok
    c.renew_if.ensures.entries c.self.invariant

pub returns-in-Ok-clause-accounts : goal.returns-in-Ok-clause-accounts
returns-in-Ok-clause-accounts g c =
    rw (← c.self.view_is)
    (rows-core_for_event _ _ _ _ _ c.in-Ok.applied c.in-Ok.ensures.ok c.renew_if.ensures.entries)

pub returns-in-Ok-clause-ok : goal.returns-in-Ok-clause-ok
returns-in-Ok-clause-ok g c =
    subst (λ (d : AnsweringCoreView). IsApplied (hub_core d) (event.Moment c.args.clock c.args.moment)
    (core_state c.apply.new.self.core) c.in-Ok.applied) c.self.view_is
    c.in-Ok.ensures.ok

pub invariant_of-self-in-Err : goal.invariant_of-self-in-Err
invariant_of-self-in-Err g c =
    desk-hub_core _ _ _ c.in-Err.ensures.unchanged refl c.self.invariant

pub returns-in-Err-clause-err : goal.returns-in-Err-clause-err
returns-in-Err-clause-err g c =
    memory-lacks _ _ c.self.view_is (event.Moment c.args.clock c.args.moment) c.in-Err.refusal
    c.requires c.in-Err.ensures.err

pub returns-in-Err-clause-unchanged : goal.returns-in-Err-clause-unchanged
returns-in-Err-clause-unchanged g c =
    desk-alike _ _ _ c.in-Err.ensures.unchanged refl _ c.self.view_is
