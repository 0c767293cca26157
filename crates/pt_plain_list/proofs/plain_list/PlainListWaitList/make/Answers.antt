use Rattle.std.proofs.Common.{ap, refl, sym, subst, ◌∙◌, ◌++◌, ◌∷◌, [], ◌==◌, ◌||◌}
use Rattle.pt_waitq.specs.Waits.{AllQueued, is_listed, has_queue}
use Rattle.pt_waitq.proofs.ChangeLemmas.{stand-more, queue-change, listed-more}
use Rattle.std.proofs.Common.{◌+◌, ◌≤◌, vec_len, vec_capacity}
use Rattle.pt_waitq.specs.Waits.{is_admitted}
use Rattle.pt_plain_list.proofs.RoomLemmas.{granted, room-next}
use Rattle.pt_plain_list.proofs.plain_list.PlainListWaitList.make.Goals as goal

pub invariant_of-self-2 : goal.invariant_of-self-2
invariant_of-self-2 g c =
    let object = c.args.object in
    let room = c.reserve.ensures.items in
    let grown = c.push_reserved.ensures.items ∙ ap (λ xs. xs ++ object ∷ []) room in
    (stand-more _ _ object _ c.self.invariant.0 grown, c.self.invariant.1, c.self.invariant.2)

pub returns-clause-queues : goal.returns-clause-queues
returns-clause-queues g c = λ q.
    let object = c.args.object in
    let room = c.reserve.ensures.items in
    let grown = c.push_reserved.ensures.items ∙ ap (λ xs. xs ++ object ∷ []) room in
    let stand = c.self.invariant.0 in
    let now = stand-more _ _ object _ stand grown in
    queue-change _ _ _ _ _ _ c.self.view_is stand now (λ ws. ws) q refl

pub returns-clause-ok : goal.returns-clause-ok
returns-clause-ok g c = λ q.
    let object = c.args.object in
    ap (is_listed q)
    (c.push_reserved.ensures.items ∙ ap (λ os. os ++ object ∷ []) c.reserve.ensures.items)
    ∙ (listed-more object q c.self.inside.objects.items
    ∙ ap (λ w. (object == q) || has_queue w q) c.self.view_is)

pub invariant_of-self : goal.invariant_of-self
invariant_of-self g c = (
  subst (λ os. AllQueued os c.self.inside.waiting.items) (sym c.reserve.ensures.items)
      c.self.invariant.0,
  c.self.invariant.1,
  c.self.invariant.2,
)

pub push_reserved-requires : goal.push_reserved-requires
push_reserved-requires g c =
    room-next _ _ (granted (vec_len c.reserve.new.self + 1 ≤ vec_capacity c.reserve.new.self)
    c.reserve.result c.if-is_err.ensures.value c.reserve.ensures.ok)

pub returns-clause-admitted : goal.returns-clause-admitted
returns-clause-admitted g c = λ d. ap (λ w. is_admitted w d) c.self.view_is
