use Rattle.std.proofs.Common.{ap, ◌∙◌}
use Rattle.pt_types.specs.Operations.{operation}
use Rattle.pt_state.specs.Calling.{is_plain}
use Rattle.pt_machine.proofs.QueuedAnswers.{plain-pushes, pushes-on-ok}
use Rattle.pt_state.specs.Adds.{history_of}
use Rattle.pt_state.specs.Requests.{object_meant}
use Rattle.pt_machine.proofs.calls.push_done.Goals as goal

pub push_unlock-requires-clause-operation : goal.push_unlock-requires-clause-operation
push_unlock-requires-clause-operation g c = ap operation c.in-Unlock.is

pub push_unlock-requires-clause-found : goal.push_unlock-requires-clause-found
push_unlock-requires-clause-found g c =
    c.requires.has_request.object
    ∙ ap (λ d. object_meant (history_of c.args.state.now) (operation d)) c.in-Unlock.is

pub returns-in-Unlock : goal.returns-in-Unlock
returns-in-Unlock g c =
    pushes-on-ok
    (plain-pushes c.requires (ap (λ d. is_plain (operation d)) c.in-Unlock.is)
    c.push_unlock.ensures)

pub push_rwunlock-requires-clause-operation : goal.push_rwunlock-requires-clause-operation
push_rwunlock-requires-clause-operation g c = ap operation c.in-Rwunlock.is

pub push_rwunlock-requires-clause-found : goal.push_rwunlock-requires-clause-found
push_rwunlock-requires-clause-found g c =
    c.requires.has_request.object
    ∙ ap (λ d. object_meant (history_of c.args.state.now) (operation d)) c.in-Rwunlock.is

pub returns-in-Rwunlock : goal.returns-in-Rwunlock
returns-in-Rwunlock g c =
    pushes-on-ok
    (plain-pushes c.requires (ap (λ d. is_plain (operation d)) c.in-Rwunlock.is)
    c.push_rwunlock.ensures)

pub push_signal-requires-clause-operation : goal.push_signal-requires-clause-operation
push_signal-requires-clause-operation g c = ap operation c.in-Signal.is

pub push_signal-requires-clause-found : goal.push_signal-requires-clause-found
push_signal-requires-clause-found g c =
    c.requires.has_request.object
    ∙ ap (λ d. object_meant (history_of c.args.state.now) (operation d)) c.in-Signal.is

pub returns-in-Signal : goal.returns-in-Signal
returns-in-Signal g c =
    pushes-on-ok c.push_signal.ensures

pub push_restored-requires-clause-operation : goal.push_restored-requires-clause-operation
push_restored-requires-clause-operation g c = ap operation c.in-Consistent.is

pub push_restored-requires-clause-found : goal.push_restored-requires-clause-found
push_restored-requires-clause-found g c =
    c.requires.has_request.object
    ∙ ap (λ d. object_meant (history_of c.args.state.now) (operation d)) c.in-Consistent.is

pub returns-in-Consistent : goal.returns-in-Consistent
returns-in-Consistent g c =
    pushes-on-ok
    (plain-pushes c.requires (ap (λ d. is_plain (operation d)) c.in-Consistent.is)
    c.push_restored.ensures)
