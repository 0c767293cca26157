use Rattle.std.proofs.Common.{sym, ap, ◌∙◌}
use Rattle.pt_types.specs.OperationViews.{operation_view}
use Rattle.pt_state.specs.Adds.{history_of}
use Rattle.pt_state.specs.Requests.{object_meant}
use Rattle.pt_machine.proofs.QueuedAnswers.{pushes-on-ok}
use Rattle.pt_machine.proofs.objects.push_ended_object.Goals as goal

pub push_destroyed-requires-clause-operation : goal.push_destroyed-requires-clause-operation
push_destroyed-requires-clause-operation g c =
    sym c.operation_of.ensures ∙ ap operation_view c.in-Ends.is

pub push_destroyed-requires-clause-found : goal.push_destroyed-requires-clause-found
push_destroyed-requires-clause-found g c =
    let is = sym c.operation_of.ensures ∙ ap operation_view c.in-Ends.is in
    c.requires.has_request.object ∙ ap (object_meant (history_of c.args.state.now)) is

pub returns-in-Ends : goal.returns-in-Ends
returns-in-Ends g c = pushes-on-ok c.push_destroyed.ensures
