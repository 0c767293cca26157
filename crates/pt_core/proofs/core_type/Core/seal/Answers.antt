use Rattle.std.proofs.Common.{◌≡◌, sym, subst}
use Rattle.std.specs.Prelude.{IfErr, IfOk, OnErr}
use Rattle.pt_legal.specs.Cores.{CoreState, CoreView}
use Rattle.pt_core.specs.Stores.{store_core, store_view}
use Rattle.pt_legal.specs.Sealing.{IsSealed, seal_refusal}
use Rattle.pt_core.specs.ValidStates.{IsValidState}
use Rattle.pt_core.proofs.Views.{store_view-now, core_state-now}
use Rattle.pt_core.proofs.core_type.Core.seal.Goals as goal

pub seal-requires : goal.seal-requires
seal-requires g c = subst IsValidState (sym c.deref_mut.ensures.value) c.self.invariant

pub returns-clause-ok : goal.returns-clause-ok
returns-clause-ok g c =
    subst (λ (k : CoreState). IfOk c.seal.result (IsSealed k (store_core c.seal.new.body.stored)))
    (core_state-now c.deref_mut.result.now c.self.inside.body.value c.args.self.now
    c.deref_mut.ensures.value c.self.view_is)
    c.seal.ensures.ok

pub returns-clause-err : goal.returns-clause-err
returns-clause-err g c =
    subst (λ (k : CoreState). IfErr c.seal.result (λ refusal. refusal ≡ seal_refusal k))
    (core_state-now c.deref_mut.result.now c.self.inside.body.value c.args.self.now
    c.deref_mut.ensures.value c.self.view_is)
    c.seal.ensures.err

pub returns-clause-unchanged : goal.returns-clause-unchanged
returns-clause-unchanged g c =
    subst (λ (x : CoreView). OnErr c.seal.result (store_view c.seal.new.body.stored ≡ x))
    (store_view-now c.deref_mut.result.now c.self.inside.body.value c.args.self.now
    c.deref_mut.ensures.value c.self.view_is)
    c.seal.ensures.unchanged
