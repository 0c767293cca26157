use Rattle.std.proofs.Common.{◌==◌, not, ◌&&◌, ◌||◌, length, vec_capacity, refl, ap, ◌∙◌}
use Rattle.pt_waitq.specs.Waits.{is_admitted, has_queue, queue_in, is_listed, has_waiter}
use Rattle.pt_chains.specs.Chains.{queued_waiters, numbers}
use Rattle.pt_waitq.proofs.ChangeLemmas.{none-stands}
use Rattle.pt_chains.proofs.BoxLemmas.{boxes-kept}
use Rattle.pt_chains.proofs.NodeIndexLemmas.{chains-dismissed, dismissed-admits}
use Rattle.pt_chains.proofs.GrowthLemmas.{at-most}
use Rattle.pt_chains.proofs.chains.ChainsWaitList.dismiss.Goals as goal

pub invariant_of-self : goal.invariant_of-self
invariant_of-self g c =
    let es = queued_waiters c.self.inside.log.items in
    let queued = c.self.invariant.0.queued in
    let none = none-stands _ _ es _ c.args.client c.self.view_is queued c.requires.nowhere in
    let gone = c.dismiss.ensures in (
      chains-dismissed c.self.inside.homes.map.entries _ c.self.inside.nodes.slots _
          c.self.inside.queues es c.client.inside.0 c.self.invariant.0 gone.homes
          gone.nodes gone.gone gone.len (ap (λ n. has_waiter n es) c.client.view_is ∙ none),
      boxes-kept (length c.self.inside.homes.map.entries) _ _ _ es _ _ _ _ c.self.inside.boxes
          c.self.invariant.1 gone.len (at-most (length (numbers c.self.inside.queues))) refl
          (at-most (vec_capacity c.self.inside.spares)),
      c.self.invariant.2,
    )

pub returns-clause-admitted : goal.returns-clause-admitted
returns-clause-admitted g c = λ d.
    let es = queued_waiters c.self.inside.log.items in
    let queued = c.self.invariant.0.queued in
    let none = none-stands _ _ es _ c.args.client c.self.view_is queued c.requires.nowhere in
    let gone = c.dismiss.ensures in
    let homes = c.self.inside.homes.map.entries in
    dismissed-admits homes _ c.self.inside.nodes.slots _ c.self.inside.queues es
    c.client.inside.0 c.self.invariant.0 gone.homes gone.nodes gone.gone gone.len
    (ap (λ n. has_waiter n es) c.client.view_is ∙ none) d
    ∙ (ap (λ n. not (n == d) && (is_listed d (numbers homes) || has_waiter d es))
    c.client.view_is
    ∙ ap (λ w. not (c.args.client == d) && is_admitted w d) c.self.view_is)

pub returns-clause-queues : goal.returns-clause-queues
returns-clause-queues g c = λ q. ap (λ w. queue_in w q) c.self.view_is

pub returns-clause-is_queue : goal.returns-clause-is_queue
returns-clause-is_queue g c = λ q. ap (λ w. has_queue w q) c.self.view_is
