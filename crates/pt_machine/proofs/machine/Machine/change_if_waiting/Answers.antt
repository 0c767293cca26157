use Rattle.std.proofs.Common.{sym, ap, ◌∙◌, arith}
use Rattle.pt_types.specs.OperationViews.{operation_view}
use Rattle.pt_state.specs.Adds.{history_of}
use Rattle.pt_state.specs.Needed.{added_by_operation, used_to_wait}
use Rattle.pt_state.specs.Requests.{mutex_meant}
use Rattle.pt_next_grant.specs.Touched.{goal_of_operation}
use Rattle.pt_machine.proofs.machine.Machine.change_if_waiting.Goals as goal

pub returns-in-Acquires-clause-adds : goal.returns-in-Acquires-clause-adds
returns-in-Acquires-clause-adds g c =
    ap added_by_operation (ap operation_view (sym c.in-Acquires.is) ∙ c.requires.operation)

pub returns-in-Acquires-clause-uses : goal.returns-in-Acquires-clause-uses
returns-in-Acquires-clause-uses g c =
    ap (used_to_wait (history_of c.args.self.now) c.args.c)
    (ap operation_view (sym c.in-Acquires.is) ∙ c.requires.operation)

pub returns-in-Acquires-clause-within : goal.returns-in-Acquires-clause-within
returns-in-Acquires-clause-within g c = omega arith

pub returns-in-BarrierWaits-clause-adds : goal.returns-in-BarrierWaits-clause-adds
returns-in-BarrierWaits-clause-adds g c =
    ap added_by_operation (ap operation_view (sym c.in-BarrierWaits.is) ∙ c.requires.operation)

pub returns-in-BarrierWaits-clause-uses : goal.returns-in-BarrierWaits-clause-uses
returns-in-BarrierWaits-clause-uses g c =
    ap (used_to_wait (history_of c.args.self.now) c.args.c)
    (ap operation_view (sym c.in-BarrierWaits.is) ∙ c.requires.operation)

pub returns-in-BarrierWaits-clause-within : goal.returns-in-BarrierWaits-clause-within
returns-in-BarrierWaits-clause-within g c = omega arith

pub change_by_wait-requires-clause-operation : goal.change_by_wait-requires-clause-operation
change_by_wait-requires-clause-operation g c =
    sym c.requires.operation ∙ ap operation_view c.in-CondWaits.is

pub change_by_wait-requires-clause-found : goal.change_by_wait-requires-clause-found
change_by_wait-requires-clause-found g c =
    c.requires.request.mutex
    ∙ ap (mutex_meant (history_of c.args.self.now))
    (sym c.requires.operation ∙ ap operation_view c.in-CondWaits.is)

pub returns-in-CondWaits : goal.returns-in-CondWaits
returns-in-CondWaits g c = record {
  adds = c.change_by_wait.ensures.adds
      ∙ ap added_by_operation (ap operation_view (sym c.in-CondWaits.is) ∙ c.requires.operation);
  uses = c.change_by_wait.ensures.uses
      ∙ ap (used_to_wait (history_of c.args.self.now) c.args.c)
      (ap operation_view (sym c.in-CondWaits.is) ∙ c.requires.operation);
  touches = c.change_by_wait.ensures.touches
      ∙ ap (goal_of_operation (history_of c.args.self.now))
      (ap operation_view (sym c.in-CondWaits.is) ∙ c.requires.operation);
  within = omega (arith, c.change_by_wait.ensures.adds);
}
