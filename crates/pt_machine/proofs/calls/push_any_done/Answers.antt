use Rattle.std.proofs.Common.{sym, ap, ◌∙◌}
use Rattle.pt_types.specs.OperationViews.{operation_view}
use Rattle.pt_machine.proofs.QueuedAnswers.{pushes-on-ok}
use Rattle.pt_machine.proofs.calls.push_any_done.Goals as goal

pub push_created-requires-clause-operation : goal.push_created-requires-clause-operation
push_created-requires-clause-operation g c =
    sym c.operation_of.ensures ∙ ap operation_view c.in-Inits.is

pub returns-in_default : goal.returns-in_default
returns-in_default g c = pushes-on-ok c.push_changed.ensures
