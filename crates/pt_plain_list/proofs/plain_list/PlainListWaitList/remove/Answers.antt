use Rattle.std.proofs.Common.{ℕ, ◌==◌, not, ap, ◌∙◌, arith}
use Rattle.pt_waitq.specs.declared.waiter.Waiter.{Waiter}
use Rattle.pt_waitq.specs.Queues.{other_waiters}
use Rattle.pt_waitq.specs.Waits.{queue_of, queue_in}
use Rattle.pt_waitq.specs.WaitingLemmas.{queue_of-other_waiters}
use Rattle.pt_waitq.proofs.ChangeLemmas.{read-as, found-in, nowhere-in, stand-out, queue-change}
use Rattle.pt_plain_list.proofs.plain_list.PlainListWaitList.remove.Goals as goal

pub invariant_of-self : goal.invariant_of-self
invariant_of-self g c =
    let kept = λ (e : ℕ × Waiter). not (e.1.client == c.args.client) in
    let room = c.take_out.ensures in
    let was = c.self.invariant in (
      stand-out _ _ _ kept c.self.invariant.0 room.entries,
      omega (arith, room.bound, room.idle, was.1),
      omega (arith, room.bound, room.waiting, was.2),
    )

pub returns-clause-found : goal.returns-clause-found
returns-clause-found g c =
    let same = read-as _ _ _ _ _ c.self.view_is c.self.invariant.0 c.deref.ensures.value in
    found-in c.args.client _ (queue_in c.args.self.now) _ same c.waiter_of-found.ensures.found

pub returns-clause-nowhere : goal.returns-clause-nowhere
returns-clause-nowhere g c =
    let same = read-as _ _ _ _ _ c.self.view_is c.self.invariant.0 c.deref.ensures.value in
    nowhere-in c.args.client _ (queue_in c.args.self.now) _ same c.waiter_of-found.ensures.nowhere

pub returns-clause-queues : goal.returns-clause-queues
returns-clause-queues g c = λ q.
    let client = c.args.client in
    let kept = λ (e : ℕ × Waiter). not (e.1.client == client) in
    let stand = c.self.invariant.0 in
    let entries = c.take_out.ensures.entries in
    let now = stand-out _ _ _ kept stand entries in
    let es = c.self.inside.waiting.items in
    let step = ap (queue_of q) entries ∙ queue_of-other_waiters client q es in
    queue-change _ _ _ _ _ _ c.self.view_is stand now (other_waiters client) q step
