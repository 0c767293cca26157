use Rattle.std.proofs.Common.{None, Some, arith, refl, subst}
use Rattle.pt_types.specs.declared.outcome.Refusal.TheVariants.{Enomem}
use Rattle.pt_model.specs.declared.entry.Event.TheVariants as event
use Rattle.pt_legal.specs.Cores.{core_state}
use Rattle.pt_legal.specs.Applying.{IsApplied}
use Rattle.pt_hub.specs.AnsweringCores.{AnsweringCoreView, hub_core}
use Rattle.pt_hub.proofs.AnsweringCoreLemmas.{desk-alike, desk-hub_core}
use Rattle.pt_hub.proofs.KnownRefusals.{made, refused-by-core, refused-known}
use Rattle.pt_hub.proofs.CoresForEvents.{desk-joined, wrote-joined}
use Rattle.pt_hub.proofs.answering_core.AnsweringCore.join.Goals as goal

pub invariant_of-self-in-Ok : goal.invariant_of-self-in-Ok
invariant_of-self-in-Ok g c =
    desk-joined _ _ _ _ _ _ c.args.priority c.in-Ok.applied c.in-Ok.ensures.ok
    c.reserve_one.ensures.entries c.renew_if.ensures.entries c.open.ensures c.self.invariant

pub returns-in-Ok-clause-account : goal.returns-in-Ok-clause-account
returns-in-Ok-clause-account g c =
    rw (← c.self.view_is)
    (wrote-joined _ _ _ _ _ _ c.args.priority c.in-Ok.applied c.in-Ok.ensures.ok
    c.reserve_one.ensures.entries c.renew_if.ensures.entries c.open.ensures)

pub returns-in-Ok-clause-ok : goal.returns-in-Ok-clause-ok
returns-in-Ok-clause-ok g c =
    subst (λ (d : AnsweringCoreView). IsApplied (hub_core d) (event.Join c.args.priority)
    (core_state c.apply.new.self.core)
    c.in-Ok.applied) c.self.view_is c.in-Ok.ensures.ok

pub invariant_of-self : goal.invariant_of-self
invariant_of-self g c =
    desk-hub_core _ c.self.inside.core _ refl c.reserve_one.ensures.entries
    c.self.invariant

pub invariant_of-self-in-Err : goal.invariant_of-self-in-Err
invariant_of-self-in-Err g c =
    desk-hub_core _ _ _ c.in-Err.ensures.unchanged c.reserve_one.ensures.entries c.self.invariant

pub returns-in-Err-clause-err : goal.returns-in-Err-clause-err
returns-in-Err-clause-err g c =
    refused-by-core _ _ c.self.view_is (event.Join c.args.priority) c.in-Err.refusal
    c.in-Err.ensures.err

pub returns-then-is_err-clause-err : goal.returns-then-is_err-clause-err
returns-then-is_err-clause-err g c =
    refused-known _ _ c.self.view_is (event.Join c.args.priority) Enomem None
    c.in_default.ensures refl

pub returns-in-Some-clause-err : goal.returns-in-Some-clause-err
returns-in-Some-clause-err g c =
    refused-known _ _ c.self.view_is (event.Join c.args.priority) c.in-Some.refusal
    (Some c.in-Some.refusal) c.in-Some.ensures refl

pub returns-in-Err-clause-unchanged : goal.returns-in-Err-clause-unchanged
returns-in-Err-clause-unchanged g c =
    desk-alike _ _ _ c.in-Err.ensures.unchanged c.reserve_one.ensures.entries _ c.self.view_is

pub open-requires : goal.open-requires
open-requires g c =
    let room = made c.reserve_one.result c.if-is_err.ensures.value c.reserve_one.ensures.room in
    omega (arith, room, c.renew_if.ensures.room)

pub returns-then-is_err-clause-unchanged : goal.returns-then-is_err-clause-unchanged
returns-then-is_err-clause-unchanged g c =
    desk-alike _ c.self.inside.core _ refl c.reserve_one.ensures.entries _
    c.self.view_is
