use Rattle.std.proofs.Common.{◌≡◌, true, false, Some, ◌⊎◌, inl, inr, refl, sym, ap, ◌∙◌}
use Rattle.pt_types.specs.declared.outcome.Outcome.TheVariants as outcomes
use Rattle.pt_types.specs.Operations.{CondWaits, BarrierWaits}
use Rattle.pt_types.specs.OperationViews.{operation_view}
use Rattle.pt_state.proofs.CallLemmas.{nearly-done}
use Rattle.pt_state.specs.Calling.{is_plain}
use Rattle.pt_state.specs.Outer.{makes_object}
use Rattle.pt_machine.proofs.QueuedAnswers.{plain-pushes}
use Rattle.pt_state.specs.Adds.{history_of}
use Rattle.pt_state.specs.Requests.{object_meant}
use Rattle.pt_machine.proofs.calls.push_changed.Goals as goal

-- what follows from each of two cases, if one of them holds
either : {A B C : Type 0} → A ⊎ B → (A → C) → (B → C) → C
either (inl a) f g = f a
either (inr b) f g = g b

-- a wait or an arrival that is answered 0 at once, as no verdict does, changes nothing
pub finish_long-requires : goal.finish_long-requires
finish_long-requires g c =
    let idle = nearly-done c.args.state.now c.args.c c.args.call.now (Some outcomes.Done)
    c.requires.can.ready in
    let is = sym c.operation_of.ensures in
    either c.in-CondWaits.is
    (λ w. idle (CondWaits w.0.now w.1.now w.2) refl (is ∙ ap operation_view w.3) refl)
    (λ other. either other
    (λ w. idle (BarrierWaits w.0.now) refl (is ∙ ap operation_view w.1) refl)
    (λ w. absurd
    (let never : true ≡ false =
    sym (ap makes_object (is ∙ ap operation_view w.2)) ∙ c.requires.other in cc)))

pub push_destroyed-requires-clause-operation : goal.push_destroyed-requires-clause-operation
push_destroyed-requires-clause-operation g c =
    sym c.operation_of.ensures ∙ ap operation_view c.in-Ends.is

pub push_destroyed-requires-clause-found : goal.push_destroyed-requires-clause-found
push_destroyed-requires-clause-found g c =
    let is = sym c.operation_of.ensures ∙ ap operation_view c.in-Ends.is in
    c.requires.can.has_request.object ∙ ap (object_meant (history_of c.args.state.now)) is

pub push_locked-requires-clause-operation : goal.push_locked-requires-clause-operation
push_locked-requires-clause-operation g c =
    sym c.operation_of.ensures ∙ ap operation_view c.in-Acquires.is

pub push_locked-requires-clause-found : goal.push_locked-requires-clause-found
push_locked-requires-clause-found g c =
    let is = sym c.operation_of.ensures ∙ ap operation_view c.in-Acquires.is in
    c.requires.can.has_request.object ∙ ap (object_meant (history_of c.args.state.now)) is

pub returns-in-Acquires : goal.returns-in-Acquires
returns-in-Acquires g c =
    plain-pushes c.requires.can
    (ap is_plain (sym c.operation_of.ensures)
    ∙ ap (λ d. is_plain (operation_view d)) c.in-Acquires.is) c.push_locked.ensures

pub push_unlock-requires-clause-operation : goal.push_unlock-requires-clause-operation
push_unlock-requires-clause-operation g c =
    sym c.operation_of.ensures ∙ ap operation_view c.in-Unlocks.is

pub push_unlock-requires-clause-found : goal.push_unlock-requires-clause-found
push_unlock-requires-clause-found g c =
    let is = sym c.operation_of.ensures ∙ ap operation_view c.in-Unlocks.is in
    c.requires.can.has_request.object ∙ ap (object_meant (history_of c.args.state.now)) is

pub returns-in-Unlocks : goal.returns-in-Unlocks
returns-in-Unlocks g c =
    plain-pushes c.requires.can
    (ap is_plain (sym c.operation_of.ensures)
    ∙ ap (λ d. is_plain (operation_view d)) c.in-Unlocks.is) c.push_unlock.ensures

pub push_restored-requires-clause-operation : goal.push_restored-requires-clause-operation
push_restored-requires-clause-operation g c =
    sym c.operation_of.ensures ∙ ap operation_view c.in-Restores.is

pub push_restored-requires-clause-found : goal.push_restored-requires-clause-found
push_restored-requires-clause-found g c =
    let is = sym c.operation_of.ensures ∙ ap operation_view c.in-Restores.is in
    c.requires.can.has_request.object ∙ ap (object_meant (history_of c.args.state.now)) is

pub returns-in-Restores : goal.returns-in-Restores
returns-in-Restores g c =
    plain-pushes c.requires.can
    (ap is_plain (sym c.operation_of.ensures)
    ∙ ap (λ d. is_plain (operation_view d)) c.in-Restores.is) c.push_restored.ensures

pub push_rwunlock-requires-clause-operation : goal.push_rwunlock-requires-clause-operation
push_rwunlock-requires-clause-operation g c =
    sym c.operation_of.ensures ∙ ap operation_view c.in-Rwunlocks.is

pub push_rwunlock-requires-clause-found : goal.push_rwunlock-requires-clause-found
push_rwunlock-requires-clause-found g c =
    let is = sym c.operation_of.ensures ∙ ap operation_view c.in-Rwunlocks.is in
    c.requires.can.has_request.object ∙ ap (object_meant (history_of c.args.state.now)) is

pub returns-in-Rwunlocks : goal.returns-in-Rwunlocks
returns-in-Rwunlocks g c =
    plain-pushes c.requires.can
    (ap is_plain (sym c.operation_of.ensures)
    ∙ ap (λ d. is_plain (operation_view d)) c.in-Rwunlocks.is) c.push_rwunlock.ensures

pub push_signal-requires-clause-operation : goal.push_signal-requires-clause-operation
push_signal-requires-clause-operation g c =
    sym c.operation_of.ensures ∙ ap operation_view c.in-Signals.is

pub push_signal-requires-clause-found : goal.push_signal-requires-clause-found
push_signal-requires-clause-found g c =
    let is = sym c.operation_of.ensures ∙ ap operation_view c.in-Signals.is in
    c.requires.can.has_request.object ∙ ap (object_meant (history_of c.args.state.now)) is

pub push_broadcast-requires-clause-operation : goal.push_broadcast-requires-clause-operation
push_broadcast-requires-clause-operation g c =
    sym c.operation_of.ensures ∙ ap operation_view c.in-Broadcasts.is

pub push_broadcast-requires-clause-found : goal.push_broadcast-requires-clause-found
push_broadcast-requires-clause-found g c =
    let is = sym c.operation_of.ensures ∙ ap operation_view c.in-Broadcasts.is in
    c.requires.can.has_request.object ∙ ap (object_meant (history_of c.args.state.now)) is

pub returns-in-CondWaits : goal.returns-in-CondWaits
returns-in-CondWaits g c =
    let is = sym c.operation_of.ensures in
    plain-pushes c.requires.can
    (ap is_plain is ∙ either c.in-CondWaits.is (λ w. ap (λ d. is_plain (operation_view d)) w.3)
    (λ other. either other (λ w. ap (λ d. is_plain (operation_view d)) w.1)
    (λ w. absurd
    (let never : true ≡ false =
    sym (ap makes_object (is ∙ ap operation_view w.2)) ∙ c.requires.other in cc))))
    c.finish_long.ensures
