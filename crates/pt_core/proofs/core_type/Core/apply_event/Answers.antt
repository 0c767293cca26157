use Rattle.std.proofs.Common.{◌≡◌, true, Option, Some, None, sym, subst}
use Rattle.std.specs.Prelude.{IfErr, IfOk, OnErr}
use Rattle.pt_types.specs.declared.outcome.Refusal.{Refusal}
use Rattle.pt_model.specs.Clients.{is_alive}
use Rattle.pt_legal.specs.Applying.{IsApplied, IsRefusal}
use Rattle.pt_legal.specs.Cores.{CoreState, CoreView, history_of}
use Rattle.pt_core.specs.Stores.{store_core, store_view}
use Rattle.pt_core.specs.ValidStates.{IsValidState}
use Rattle.pt_core.proofs.Views.{store_view-now, core_state-now}
use Rattle.pt_core.proofs.core_type.Core.apply_event.Goals as goal

pub refusal-requires : goal.refusal-requires
refusal-requires g c = subst IsValidState (sym c.deref.ensures) c.self.invariant

pub apply_accepted-requires-clause-valid : goal.apply_accepted-requires-clause-valid
apply_accepted-requires-clause-valid g c =
    subst IsValidState (sym c.deref_mut.ensures.value) c.self.invariant

pub returns-in-Some-clause-err : goal.returns-in-Some-clause-err
returns-in-Some-clause-err g c =
    subst (λ (k : CoreState). IsRefusal k c.args.event.now c.in-Some.refusal)
    (core_state-now c.deref.result.now c.self.inside.body.value c.args.self.now c.deref.ensures
    c.self.view_is)
    c.in-Some.ensures.err

never_refused : (r : Refusal) → ◌≡◌ {A = Option Refusal} (Some r) None → ⊥
never_refused r e = absurd cc

pub returns-in-Some-clause-death : goal.returns-in-Some-clause-death
returns-in-Some-clause-death g c = λ d is alive.
    let view = core_state-now c.deref.result.now c.self.inside.body.value c.args.self.now
    c.deref.ensures c.self.view_is in
    absurd (never_refused c.in-Some.refusal (c.in-Some.ensures.death d is
    (subst (λ (k : CoreState). is_alive (history_of k) d ≡ true) (sym view) alive)))

pub returns-clause-ok : goal.returns-clause-ok
returns-clause-ok g c =
    subst
    (λ (k : CoreState). IfOk c.apply_accepted.result
    (IsApplied k c.args.event.now (store_core c.apply_accepted.new.body.stored)))
    (core_state-now c.deref_mut.result.now c.self.inside.body.value c.args.self.now
    c.deref_mut.ensures.value c.self.view_is)
    c.apply_accepted.ensures.ok

pub returns-clause-err : goal.returns-clause-err
returns-clause-err g c =
    subst (λ (k : CoreState). IfErr c.apply_accepted.result (IsRefusal k c.args.event.now))
    (core_state-now c.deref_mut.result.now c.self.inside.body.value c.args.self.now
    c.deref_mut.ensures.value c.self.view_is)
    c.apply_accepted.ensures.err

pub returns-clause-unchanged : goal.returns-clause-unchanged
returns-clause-unchanged g c =
    subst
    (λ (x : CoreView). OnErr c.apply_accepted.result (store_view c.apply_accepted.new.body.stored
    ≡ x))
    (store_view-now c.deref_mut.result.now c.self.inside.body.value c.args.self.now
    c.deref_mut.ensures.value c.self.view_is)
    c.apply_accepted.ensures.unchanged

pub returns-clause-death : goal.returns-clause-death
returns-clause-death g c = λ d is alive.
    let view = core_state-now c.deref_mut.result.now c.self.inside.body.value c.args.self.now
    c.deref_mut.ensures.value c.self.view_is in
    c.apply_accepted.ensures.death d is
    (subst (λ (k : CoreState). is_alive (history_of k) d ≡ true) (sym view) alive)
