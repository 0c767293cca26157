use Rattle.std.proofs.Common.{ℕ, ◌==◌, not, ap, ◌∙◌, arith}
use Rattle.pt_waitq.specs.declared.waiter.Waiter.{Waiter}
use Rattle.pt_waitq.specs.Queues.{head_of, other_waiters}
use Rattle.pt_waitq.specs.Waits.{queue_of}
use Rattle.pt_waitq.specs.WaitingLemmas.{queue_of-other_waiters}
use Rattle.pt_waitq.proofs.ChangeLemmas.{read-as, stand-out, queue-change}
use Rattle.pt_plain_list.proofs.plain_list.PlainListWaitList.take_first.Goals as goal

pub returns-in_err-first-clause-first : goal.returns-in_err-first-clause-first
returns-in_err-first-clause-first g c =
    let stand = c.self.invariant.0 in
    c.from_residual.ensures
    ∙ (c.in_err-first.ensures
    ∙ ap head_of (read-as _ _ _ _ _ c.self.view_is stand c.deref.ensures.value c.args.object))

pub invariant_of-self : goal.invariant_of-self
invariant_of-self g c =
    let kept = λ (e : ℕ × Waiter). not (e.1.client == c.in_ok-first.first.client) in
    let room = c.take_out.ensures in
    let was = c.self.invariant in (
      stand-out _ _ _ kept c.self.invariant.0 room.entries,
      omega (arith, room.bound, room.idle, was.1),
      omega (arith, room.bound, room.waiting, was.2),
    )

pub returns-clause-first : goal.returns-clause-first
returns-clause-first g c =
    let stand = c.self.invariant.0 in
    c.in_ok-first.ensures
    ∙ ap head_of (read-as _ _ _ _ _ c.self.view_is stand c.deref.ensures.value c.args.object)

pub returns-clause-taken : goal.returns-clause-taken
returns-clause-taken g c = λ q.
    let client = c.in_ok-first.first.client in
    let kept = λ (e : ℕ × Waiter). not (e.1.client == client) in
    let stand = c.self.invariant.0 in
    let entries = c.take_out.ensures.entries in
    let now = stand-out _ _ _ kept stand entries in
    let es = c.self.inside.waiting.items in
    let step = ap (queue_of q) entries ∙ queue_of-other_waiters client q es in
    queue-change _ _ _ _ _ _ c.self.view_is stand now (other_waiters client) q step
