use Rattle.std.proofs.Common.{sym, ap, ◌∙◌}
use Rattle.pt_types.specs.Operations.{clock_of}
use Rattle.pt_types.specs.OperationViews.{operation_view}
use Rattle.pt_state.specs.Adds.{history_of}
use Rattle.pt_state.specs.Requests.{mutex_meant, object_meant}
use Rattle.pt_state.proofs.Handing.{left-acquires, left-arrives, left-awaits}
use Rattle.pt_state.proofs.WaitingLemmas.{stands-only, stood-some}
use Rattle.pt_state.proofs.state.State.waiting.Goals as goal

pub returns-in-Acquires : goal.returns-in-Acquires
returns-in-Acquires g c =
    let h = history_of c.args.self.now in
    let does = sym c.operation_of.ensures ∙ ap operation_view c.in-Acquires.is in
    left-acquires h c.args.c c.args.call.now _ _ _ c.args.request.now.object _ _ _ _ _ does
    (c.requires.request.object ∙ ap (object_meant h) does) c.or_zero-object.ensures
    c.role_of_lock-role.ensures c.clock_of.ensures c.deadline_of.ensures
    c.entered.ensures.call c.entered.ensures.unmoved

pub returns-in-CondWaits : goal.returns-in-CondWaits
returns-in-CondWaits g c =
    let h = history_of c.args.self.now in
    let does = sym c.operation_of.ensures ∙ ap operation_view c.in-CondWaits.is in
    left-awaits h c.args.c c.args.call.now _ _ c.args.request.now.object c.args.request.now.mutex
    _ _ _ _ _ does (c.requires.request.object ∙ ap (object_meant h) does)
    (c.requires.request.mutex ∙ ap (mutex_meant h) does) c.or_zero-object.ensures c.or_zero.ensures
    c.clock_of-in-CondWaits.ensures c.entered-in-CondWaits.ensures.call
    c.entered-in-CondWaits.ensures.unmoved

pub returns-in-BarrierWaits : goal.returns-in-BarrierWaits
returns-in-BarrierWaits g c =
    let h = history_of c.args.self.now in
    let does = sym c.operation_of.ensures ∙ ap operation_view c.in-BarrierWaits.is in
    left-arrives h c.args.c c.args.call.now _ c.args.request.now.object _ _ _ does
    (c.requires.request.object ∙ ap (object_meant h) does) c.or_zero-object.ensures
    c.clock_of-in-BarrierWaits.ensures c.entered-in-BarrierWaits.ensures.call
    c.entered-in-BarrierWaits.ensures.unmoved

-- no other call waits
pub unreachable-requires : goal.unreachable-requires
unreachable-requires g c =
    let w = stood-some c.args.self.now c.args.c c.args.call.now c.requires.has_room
    (operation_view c.operation_of.result) c.operation_of.ensures in
    stands-only (history_of c.args.self.now) c.args.c (clock_of c.args.call.now)
    c.operation_of.result w.0 w.1
    c.in_default.not-Acquires c.in_default.not-CondWaits c.in_default.not-BarrierWaits
