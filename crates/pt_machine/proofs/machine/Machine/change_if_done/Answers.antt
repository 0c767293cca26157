use Rattle.std.proofs.Common.{refl, sym, ap, ◌∙◌}
use Rattle.pt_types.specs.OperationViews.{operation_view}
use Rattle.pt_state.specs.Adds.{history_of}
use Rattle.pt_state.specs.Needed.{last_lock_if, used_by_operation}
use Rattle.pt_state.specs.Requests.{object_meant}
use Rattle.pt_next_grant.specs.Touched.{touched_by_operation}
use Rattle.pt_machine.proofs.machine.Machine.change_if_done.Goals as goal

pub change_by_signal-requires-clause-found : goal.change_by_signal-requires-clause-found
change_by_signal-requires-clause-found g c =
    c.requires.request.object
    ∙ ap (λ d. object_meant (history_of c.args.self.now) (operation_view d)) c.in-Signals.is

pub change_by_broadcast-requires-clause-found : goal.change_by_broadcast-requires-clause-found
change_by_broadcast-requires-clause-found g c =
    c.requires.request.object
    ∙ ap (λ d. object_meant (history_of c.args.self.now) (operation_view d)) c.in-Broadcasts.is

pub returns-in-Unlocks : goal.returns-in-Unlocks
returns-in-Unlocks g c =
    let h = history_of c.args.self.now in
    record {
      adds = c.change_by_unlock.ensures.adds;
      uses =
          c.change_by_unlock.ensures.uses
          ∙ ap (last_lock_if h c.args.c) (c.requires.request.object
          ∙ ap (λ d. object_meant h (operation_view d)) c.in-Unlocks.is)
          ∙ ap (λ d. used_by_operation h c.args.c (operation_view d)) (sym c.in-Unlocks.is);
      touches =
          c.change_by_unlock.ensures.touches
          ∙ c.requires.request.object
          ∙ ap (λ d. object_meant h (operation_view d)) c.in-Unlocks.is
          ∙ ap (λ d. touched_by_operation h (operation_view d)) (sym c.in-Unlocks.is);
    }

pub returns-in-Rwunlocks : goal.returns-in-Rwunlocks
returns-in-Rwunlocks g c =
    let h = history_of c.args.self.now in
    record {
      adds = refl;
      uses = ap (λ d. used_by_operation h c.args.c (operation_view d)) (sym c.in-Rwunlocks.is);
      touches =
          c.requires.request.object
          ∙ ap (λ d. object_meant h (operation_view d)) c.in-Rwunlocks.is
          ∙ ap (λ d. touched_by_operation h (operation_view d)) (sym c.in-Rwunlocks.is);
    }

pub returns-in-Signals : goal.returns-in-Signals
returns-in-Signals g c =
    let h = history_of c.args.self.now in
    record {
      adds = c.change_by_signal.ensures.adds;
      uses =
          c.change_by_signal.ensures.uses
          ∙ ap (λ d. used_by_operation h c.args.c (operation_view d)) (sym c.in-Signals.is);
      touches =
          c.change_by_signal.ensures.touches
          ∙ ap (λ d. touched_by_operation h (operation_view d)) (sym c.in-Signals.is);
    }

pub returns-in-Broadcasts : goal.returns-in-Broadcasts
returns-in-Broadcasts g c =
    let h = history_of c.args.self.now in
    record {
      adds = c.change_by_broadcast.ensures.adds;
      uses =
          c.change_by_broadcast.ensures.uses
          ∙ ap (λ d. used_by_operation h c.args.c (operation_view d)) (sym c.in-Broadcasts.is);
      touches =
          c.change_by_broadcast.ensures.touches
          ∙ ap (λ d. touched_by_operation h (operation_view d)) (sym c.in-Broadcasts.is);
    }
