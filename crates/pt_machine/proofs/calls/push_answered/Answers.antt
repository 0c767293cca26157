use Rattle.std.proofs.Common.{rules, ◌≡◌, false, subst}
use Rattle.pt_state.specs.Calling.{is_done}
use Rattle.pt_machine.specs.Pushes.{CanCall}
use Rattle.std.proofs.Common.{Some}
use Rattle.pt_machine.proofs.QueuedAnswers.{pushes-on-ok, told-pushes}
use Rattle.pt_machine.proofs.calls.push_answered.Goals as goal

pub returns-in_default : goal.returns-in_default
returns-in_default g c =
    let other : is_done c.args.answer ≡ false = search rules in
    pushes-on-ok (told-pushes c.requires other c.push_answered_call.ensures)

pub push_done-requires : goal.push_done-requires
push_done-requires g c =
    subst (λ x. CanCall c.args.state.now (g.Q.WaitList.seen c.args.queues.now) c.args.c
    c.args.call.now (Some x) c.args.request.now) c.in-Done.is c.requires
