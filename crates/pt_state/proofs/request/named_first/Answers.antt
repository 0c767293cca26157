use Rattle.std.proofs.Common.{sym, ap, ◌∙◌}
use Rattle.pt_types.specs.OperationViews.{operation_view}
use Rattle.pt_model.specs.Objects.{find_object}
use Rattle.pt_state.specs.Requests.{object_meant}
use Rattle.pt_state.proofs.request.named_first.Goals as goal

pub returns-in-Inits : goal.returns-in-Inits
returns-in-Inits c = λ h. ap (λ o. object_meant h (operation_view o)) c.in-Inits.is

pub returns-in-Ends : goal.returns-in-Ends
returns-in-Ends c = λ h. ap (λ o. object_meant h (operation_view o)) c.in-Ends.is

pub returns-in-Acquires : goal.returns-in-Acquires
returns-in-Acquires c = λ h.
    ap (λ o. object_meant h (operation_view o)) c.in-Acquires.is
    ∙ ap (find_object h c.in-Acquires.n.now) (sym c.class_needed.ensures)

pub returns-in-Unlocks : goal.returns-in-Unlocks
returns-in-Unlocks c = λ h. ap (λ o. object_meant h (operation_view o)) c.in-Unlocks.is

pub returns-in-Restores : goal.returns-in-Restores
returns-in-Restores c = λ h. ap (λ o. object_meant h (operation_view o)) c.in-Restores.is

pub returns-in-Rwunlocks : goal.returns-in-Rwunlocks
returns-in-Rwunlocks c = λ h. ap (λ o. object_meant h (operation_view o)) c.in-Rwunlocks.is

pub returns-in-CondWaits : goal.returns-in-CondWaits
returns-in-CondWaits c = λ h. ap (λ o. object_meant h (operation_view o)) c.in-CondWaits.is

pub returns-in-Signals : goal.returns-in-Signals
returns-in-Signals c = λ h. ap (λ o. object_meant h (operation_view o)) c.in-Signals.is

pub returns-in-Broadcasts : goal.returns-in-Broadcasts
returns-in-Broadcasts c = λ h. ap (λ o. object_meant h (operation_view o)) c.in-Broadcasts.is

pub returns-in-BarrierWaits : goal.returns-in-BarrierWaits
returns-in-BarrierWaits c = λ h. ap (λ o. object_meant h (operation_view o)) c.in-BarrierWaits.is
