use Rattle.std.proofs.Common.{◌==◌, not, ◌&&◌, length, refl, sym, ap, ◌∙◌, arith}
use Rattle.pt_waitq.specs.Waits.{queue_of, has_queue, is_listed}
use Rattle.pt_chains.specs.Chains.{numbers, queued_waiters}
use Rattle.pt_chains.proofs.ChainLemmas.{listed-lookup}
use Rattle.pt_waitq.proofs.ChangeLemmas.{queue-change, read-as}
use Rattle.pt_chains.proofs.InsertLemmas.{length-numbers}
use Rattle.pt_chains.proofs.BoxLemmas.{boxes-kept}
use Rattle.pt_chains.proofs.MadeLemmas.{discard-made, discard-stand, chains-discarded}
use Rattle.pt_waitq.specs.Waits.{is_admitted}
use Rattle.pt_chains.proofs.chains.ChainsWaitList.discard.Goals as goal

pub discard-requires : goal.discard-requires
discard-requires g c =
    let o = c.object.inside.0 in
    let is_queue = ap (λ s. has_queue s o) c.self.view_is
    ∙ (ap (has_queue c.args.self.now) c.object.view_is ∙ c.requires.is_queue) in
    sym (listed-lookup o c.self.inside.queues) ∙ is_queue

pub invariant_of-self : goal.invariant_of-self
invariant_of-self g c =
    let es = queued_waiters c.self.inside.log.items in
    let empty = ap (λ o. queue_of o es) c.object.view_is
    ∙ (read-as _ _ es es _ c.self.view_is c.self.invariant.0.queued refl c.args.object
    ∙ c.requires.empty) in (
      chains-discarded _ _ c.self.inside.queues _ es c.object.inside.0
          c.self.invariant.0 c.discard.ensures.queues empty,
      boxes-kept _ _ (length (numbers c.self.inside.queues)) _ es _ _ _ _
          c.self.inside.boxes c.self.invariant.1 (omega arith)
          (omega (
            arith,
            c.discard.ensures.len,
            length-numbers c.self.inside.queues,
            length-numbers c.discard.new.queues,
          )) refl (omega arith),
      c.self.invariant.2,
    )

pub returns-clause-is_queue : goal.returns-clause-is_queue
returns-clause-is_queue g c = λ q.
    let es = queued_waiters c.self.inside.log.items in
    let empty = ap (λ o. queue_of o es) c.object.view_is
    ∙ (read-as _ _ es es _ c.self.view_is c.self.invariant.0.queued refl c.args.object
    ∙ c.requires.empty) in
    discard-made _ _ c.self.inside.queues _ es c.object.inside.0 c.self.invariant.0
    c.discard.ensures.queues empty q
    ∙ (ap (λ o. not (o == q) && is_listed q (numbers c.self.inside.queues))
    c.object.view_is
    ∙ ap (λ w. not (c.args.object == q) && has_queue w q) c.self.view_is)

pub returns-clause-queues : goal.returns-clause-queues
returns-clause-queues g c = λ q.
    let es = queued_waiters c.self.inside.log.items in
    let queued = c.self.invariant.0.queued in
    let empty = ap (λ o. queue_of o es) c.object.view_is
    ∙ (read-as _ _ es es _ c.self.view_is queued refl c.args.object ∙ c.requires.empty) in
    let now = discard-stand _ _ c.self.inside.queues _ es c.object.inside.0
    c.self.invariant.0 c.discard.ensures.queues empty in
    queue-change _ _ _ es es _ c.self.view_is queued now (λ ws. ws) q refl

pub returns-clause-admitted : goal.returns-clause-admitted
returns-clause-admitted g c = λ d. ap (λ w. is_admitted w d) c.self.view_is
