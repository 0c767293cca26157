-- A core shows what is stored of its state.
use Rattle.std.proofs.Common.{◌≡◌, ap, ◌∙◌}
use Rattle.pt_state.specs.declared.state.State.{State}
use Rattle.pt_legal.specs.Cores.{CoreView, core_state}
use Rattle.pt_core.specs.Stores.{store_core, store_view}

module _ {A : Type 0} (lent inside : State A) (view : CoreView) (same : lent ≡ inside)
    (is : store_view inside.stored ≡ view) where
  pub store_view-now : store_view lent.stored ≡ view
  store_view-now = ap (λ (s : State A). store_view s.stored) same ∙ is

  pub core_state-now : store_core lent.stored ≡ core_state view
  core_state-now = ap core_state store_view-now
