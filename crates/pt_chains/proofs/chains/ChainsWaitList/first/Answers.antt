use Rattle.std.proofs.Common.{refl, ap, ◌∙◌}
use Rattle.pt_waitq.specs.Queues.{head_of}
use Rattle.pt_waitq.specs.Waits.{queue_of}
use Rattle.pt_chains.specs.Chains.{queued_waiters}
use Rattle.pt_waitq.proofs.ChangeLemmas.{read-as}
use Rattle.pt_chains.proofs.FirstLemmas.{first-known, first-told}
use Rattle.pt_chains.proofs.chains.ChainsWaitList.first.Goals as goal

pub waiter_of-requires : goal.waiter_of-requires
waiter_of-requires g c =
    let es = queued_waiters c.self.inside.log.items in
    let found = c.first_of.ensures in
    first-known c.self.inside.homes.map.entries c.self.inside.nodes.slots
    c.self.inside.queues es c.self.invariant.0 c.object.inside.0 _ found.none
    found.queue

pub returns : goal.returns
returns g c =
    let es = queued_waiters c.self.inside.log.items in
    let found = c.first_of.ensures in
    c.waiter_of.ensures
    ∙ (first-told c.self.inside.homes.map.entries c.self.inside.nodes.slots
    c.self.inside.queues es c.self.invariant.0 c.object.inside.0 _ found.none
    found.queue
    ∙ (ap (λ o. head_of (queue_of o es)) c.object.view_is
    ∙ ap head_of (read-as _ _ es es _ c.self.view_is c.self.invariant.0.queued refl c.args.object)))
