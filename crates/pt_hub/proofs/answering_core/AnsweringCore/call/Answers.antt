use Rattle.std.proofs.Common.{Option, refl, sym, ap, ◌∙◌, subst}
use Rattle.std.specs.Prelude.{unwrap_or}
use Rattle.pt_types.specs.declared.call.Call.{Call as FunctionCall}
use Rattle.pt_model.specs.declared.entry.Event.TheVariants as event
use Rattle.pt_legal.specs.Cores.{core_state}
use Rattle.pt_legal.specs.Applying.{IsApplied}
use Rattle.pt_hub.specs.AnsweringCores.{AnsweringCoreView, hub_core}
use Rattle.pt_hub.proofs.AnsweringCoreLemmas.{desk-alike, desk-hub_core}
use Rattle.pt_hub.proofs.ViewLemmas.{caller-refused}
use Rattle.pt_hub.proofs.CoresForEvents.{caller-there, desk-called, first-core_for_event, next-called}
use Rattle.pt_hub.proofs.CoresForEvents.{wrote-called}
use Rattle.pt_hub.proofs.answering_core.AnsweringCore.call.Goals as goal

pub note_call-requires : goal.note_call-requires
note_call-requires g c =
    let core = c.self.inside.core in
    let old : AnsweringCoreView = record { core = core; accounts = c.self.inside.accounts.entries } in
    caller-there old _ c.self.view_is c.self.invariant _ _ c.c.view_is _ _ refl
    (sym c.is_blocked.ensures ∙ c.if-is_blocked.false) _ c.in-Ok.applied c.in-Ok.ensures.ok _
    c.renew_if.ensures.entries

pub invariant_of-self : goal.invariant_of-self
invariant_of-self g c =
    let core = c.self.inside.core in
    let old : AnsweringCoreView = record { core = core; accounts = c.self.inside.accounts.entries } in
    desk-called old _ c.self.view_is c.self.invariant _ _ c.c.view_is _ _ refl
    (sym c.is_blocked.ensures ∙ c.if-is_blocked.false) _ c.in-Ok.applied c.in-Ok.ensures.ok _
    c.renew_if.ensures.entries _
    c.note_call.ensures

pub returns-in-Ok-clause-first : goal.returns-in-Ok-clause-first
returns-in-Ok-clause-first g c =
    rw (← c.self.view_is) (first-core_for_event _ _ _ c.in-Ok.applied c.in-Ok.ensures.ok)

pub returns-in-Ok-clause-account : goal.returns-in-Ok-clause-account
returns-in-Ok-clause-account g c =
    let core = c.self.inside.core in
    let old : AnsweringCoreView = record { core = core; accounts = c.self.inside.accounts.entries } in
    wrote-called old _ c.self.view_is c.self.invariant _ _ c.c.view_is _ _ refl
    (sym c.is_blocked.ensures ∙ c.if-is_blocked.false) _ c.in-Ok.applied c.in-Ok.ensures.ok _
    c.renew_if.ensures.entries _
    c.note_call.ensures

pub returns-in-Err-clause-err : goal.returns-in-Err-clause-err
returns-in-Err-clause-err g c =
    caller-refused _ _ c.self.invariant c.self.view_is _ _ refl c.args.call c.args.call refl _
    (sym c.is_blocked.ensures ∙ c.if-is_blocked.false) c.in-Err.ensures.err

-- the account awaits an answer, which is the one to the latest call
pub returns-in-Ok-clause-next : goal.returns-in-Ok-clause-next
returns-in-Ok-clause-next g c =
    let core = c.self.inside.core in
    let old : AnsweringCoreView = record { core = core; accounts = c.self.inside.accounts.entries } in
    next-called old _ c.self.view_is c.self.invariant _ _ c.c.view_is _ _ refl
    (sym c.is_blocked.ensures ∙ c.if-is_blocked.false) _ c.in-Ok.applied c.in-Ok.ensures.ok _
    c.renew_if.ensures.entries _
    c.note_call.ensures c.apply.new.self refl

pub returns-in-Ok-clause-ok : goal.returns-in-Ok-clause-ok
returns-in-Ok-clause-ok g c =
    subst (λ (d : AnsweringCoreView). IsApplied (hub_core d) (event.Call c.args.c c.args.call)
    (core_state c.apply.new.self.core) c.in-Ok.applied) c.self.view_is
    c.in-Ok.ensures.ok

pub returns-in-Ok-clause-returned_call : goal.returns-in-Ok-clause-returned_call
returns-in-Ok-clause-returned_call g c =
    ap (λ (o : Option FunctionCall). unwrap_or o c.args.call) (sym c.call_of.ensures)

pub invariant_of-self-in-Err : goal.invariant_of-self-in-Err
invariant_of-self-in-Err g c =
    desk-hub_core _ _ _ c.in-Err.ensures.unchanged refl c.self.invariant

pub returns-in-Err-clause-unchanged : goal.returns-in-Err-clause-unchanged
returns-in-Err-clause-unchanged g c =
    desk-alike _ _ _ c.in-Err.ensures.unchanged refl _ c.self.view_is
