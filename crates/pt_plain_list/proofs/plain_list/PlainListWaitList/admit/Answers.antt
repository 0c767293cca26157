use Rattle.std.proofs.Common.{◌+◌, ◌≤◌, ◌==◌, ◌||◌, ◌++◌, ◌∷◌, [], vec_len, vec_capacity, refl, sym}
use Rattle.std.proofs.Common.{ap, ◌∙◌, subst}
use Rattle.pt_waitq.specs.Waits.{AllQueued, waits_of, is_listed, has_waiter, is_admitted, has_queue}
use Rattle.pt_waitq.specs.Waits.{queue_in}
use Rattle.pt_plain_list.proofs.AdmittedLemmas.{admitted-more}
use Rattle.pt_plain_list.proofs.RoomLemmas.{room-wider, room-same, room-pushed, room-beside}
use Rattle.pt_plain_list.proofs.RoomLemmas.{room-one, granted}
use Rattle.pt_plain_list.proofs.plain_list.PlainListWaitList.admit.Goals as goal

pub invariant_of-self : goal.invariant_of-self
invariant_of-self g c =
    let idle = c.reserve.ensures in (
      c.self.invariant.0,
      room-wider _ _ _ _ _ _ idle.len refl idle.capacity c.self.invariant.1,
      room-same _ _ _ _ _ idle.len refl c.self.invariant.2,
    )

pub invariant_of-self-then-is_err-2 : goal.invariant_of-self-then-is_err-2
invariant_of-self-then-is_err-2 g c =
    let idle = c.reserve.ensures in
    let waiting = c.reserve-else-is_err.ensures in (
      subst (AllQueued c.self.inside.objects.items) (sym waiting.items) c.self.invariant.0,
      room-wider _ _ _ _ _ _ idle.len waiting.len idle.capacity c.self.invariant.1,
      room-wider _ _ _ _ _ _ idle.len waiting.len waiting.capacity c.self.invariant.2,
    )

pub invariant_of-self-2 : goal.invariant_of-self-2
invariant_of-self-2 g c =
    let waiting = c.reserve-else-is_err.ensures in
    let pushed = c.push_reserved.ensures in
    let room = granted
    (vec_len c.reserve.new.self + (c.len-idle.result + 1) ≤ vec_capacity c.reserve.new.self)
    c.reserve.result c.if-is_err.ensures.value c.reserve.ensures.ok in
    let beside = granted
    (vec_len c.reserve-else-is_err.new.self + (c.len-waiting.result + 1)
    ≤ vec_capacity c.reserve-else-is_err.new.self)
    c.reserve-else-is_err.result c.if-is_err-2.ensures.value waiting.ok in (
      subst (AllQueued c.self.inside.objects.items) (sym waiting.items) c.self.invariant.0,
      room-pushed _ _ _ _ _ _ _ room c.len-idle.ensures waiting.len pushed.len pushed.capacity,
      room-beside _ _ _ _ _ _ beside c.len-waiting.ensures c.reserve.ensures.len pushed.len,
    )

pub push_reserved-requires : goal.push_reserved-requires
push_reserved-requires g c =
    room-one _ _ _ (granted
    (vec_len c.reserve.new.self + (c.len-idle.result + 1) ≤ vec_capacity c.reserve.new.self)
    c.reserve.result c.if-is_err.ensures.value c.reserve.ensures.ok)

pub returns-clause-ok : goal.returns-clause-ok
returns-clause-ok g c = λ d.
    let client = c.args.client in
    let own = c.self.inside in
    ap (λ cs. is_listed d cs || has_waiter d c.reserve-else-is_err.new.self.items)
    (c.push_reserved.ensures.items ∙ ap (λ cs. cs ++ client ∷ []) c.reserve.ensures.items)
    ∙ (ap (λ es. is_listed d (own.idle.items ++ client ∷ []) || has_waiter d es)
    c.reserve-else-is_err.ensures.items
    ∙ (admitted-more client own.idle.items own.waiting.items d
    ∙ ap (λ w. (client == d) || is_admitted w d) c.self.view_is))

pub returns-clause-queues : goal.returns-clause-queues
returns-clause-queues g c = λ q.
    let own = c.self.inside in
    ap (λ es. queue_in (waits_of own.idle.items own.objects.items es) q)
    c.reserve-else-is_err.ensures.items
    ∙ ap (λ w. queue_in w q) c.self.view_is

pub returns-clause-is_queue : goal.returns-clause-is_queue
returns-clause-is_queue g c = λ q. ap (λ w. has_queue w q) c.self.view_is
