use Rattle.std.proofs.Common.{ℕ, ◌==◌, cond, ap, ◌∙◌, arith}
use Rattle.pt_waitq.specs.declared.waiter.Waiter.{Waiter}
use Rattle.pt_waitq.specs.Queues.{insert_in_order}
use Rattle.pt_waitq.specs.Waits.{queue_of, is_admitted, has_queue}
use Rattle.pt_waitq.specs.QueueLemmas.{queue_of-more}
use Rattle.pt_waitq.proofs.ChangeLemmas.{none-stands, idle-if, stand-in, queue-change}
use Rattle.pt_plain_list.proofs.plain_list.PlainListWaitList.insert.Goals as goal

pub put_in-requires-clause-admitted : goal.put_in-requires-clause-admitted
put_in-requires-clause-admitted g c =
    let client = c.args.waiter.client in
    let none = none-stands _ _ _ _ client c.self.view_is c.self.invariant.0 c.requires.nowhere in
    let room = ap (λ w. is_admitted w client) c.self.view_is ∙ c.requires.admitted in
    idle-if c.self.inside.idle.items c.self.inside.waiting.items client room none

pub invariant_of-self : goal.invariant_of-self
invariant_of-self g c =
    let stand = c.self.invariant.0 in
    let entry : ℕ × Waiter = (c.args.object, c.args.waiter) in
    let none = none-stands _ _ _ _ c.args.waiter.client c.self.view_is stand c.requires.nowhere in
    let is_queue = ap (λ w. has_queue w c.args.object) c.self.view_is ∙ c.requires.is_queue in
    let room = c.put_in.ensures in
    let was = c.self.invariant in (
      stand-in c.self.inside.objects.items c.self.inside.waiting.items _ entry
          stand is_queue none room.entries,
      omega (arith, room.bound, room.idle, was.1),
      omega (arith, room.bound, room.waiting, was.2),
    )

pub returns-clause-queues : goal.returns-clause-queues
returns-clause-queues g c = λ q.
    let stand = c.self.invariant.0 in
    let object = c.args.object in
    let waiter = c.args.waiter in
    let es = c.self.inside.waiting.items in
    let none = none-stands _ _ _ _ waiter.client c.self.view_is stand c.requires.nowhere in
    let is_queue = ap (λ w. has_queue w object) c.self.view_is ∙ c.requires.is_queue in
    let entries = c.put_in.ensures.entries in
    let now = stand-in c.self.inside.objects.items es _ (object, waiter) stand is_queue none entries in
    let step = ap (queue_of q) entries ∙ queue_of-more q es (object, waiter) in
    queue-change _ _ _ _ _ _ c.self.view_is stand now
    (λ ws. cond (object == q) (insert_in_order waiter ws) ws) q step
