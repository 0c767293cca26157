use Rattle.std.proofs.Common.{◌==◌, Some, refl, ap, sym, ◌∙◌}
use Rattle.pt_waitq.specs.declared.waiter.Waiter.{Waiter}
use Rattle.pt_model.specs.declared.waiting_call.WaitingCall.{WaitingCall}
use Rattle.pt_model.specs.Moves.{wait_object}
use Rattle.pt_model.specs.Queries.{client_of_found}
use Rattle.pt_state.specs.Adds.{history_of}
use Rattle.pt_machine.specs.CallQueues.{IsQueued}
use Rattle.pt_machine.proofs.QueueClasses.{no-arrival}
use Rattle.pt_machine.proofs.QueueFirsts.{first-least, none-call_of_open}
use Rattle.pt_machine.proofs.machine.Machine.first_at.Goals as goal

pub returns-in-Some : goal.returns-in-Some
returns-in-Some g c =
    let s = c.args.self.now in
    let queues = c.self.inside.queues in
    let queued : IsQueued (history_of s) (g.Q.WaitList.seen queues) =
    rw (← c.self.view_is) c.self.invariant.0 in
    let r = first-least (history_of s) (g.Q.WaitList.seen queues).queue queued.members
    c.requires.tables.follows c.args.o
    (λ (w : WaitingCall). wait_object (history_of s) w == c.args.o) (λ w i. refl)
    (no-arrival (history_of s) c.requires.tables.follows c.args.o c.requires.other) c.in-Some.first
    (sym c.first.ensures ∙ c.in-Some.is) in
    ap (λ (x : Waiter). Some x.client) r.1.1 ∙ ap client_of_found (sym r.1.2)

pub returns-in-None : goal.returns-in-None
returns-in-None g c =
    let s = c.args.self.now in
    let queues = c.self.inside.queues in
    let queued : IsQueued (history_of s) (g.Q.WaitList.seen queues) =
    rw (← c.self.view_is) c.self.invariant.0 in
    ap client_of_found
    (none-call_of_open (history_of s) (g.Q.WaitList.seen queues).queue queued.members
    c.requires.tables.follows c.args.o
    (λ (w : WaitingCall). wait_object (history_of s) w == c.args.o) (λ w i. refl) c.first.result
    c.first.ensures c.in-None.is)
