use Rattle.std.proofs.Common.{sym, ap, ◌∙◌}
use Rattle.pt_types.specs.OperationViews.{operation_view}
use Rattle.pt_machine.proofs.objects.push_new_object.Goals as goal

pub push_created-requires-clause-operation : goal.push_created-requires-clause-operation
push_created-requires-clause-operation g c =
    sym c.operation_of.ensures ∙ ap operation_view c.in-Inits.is
