use Rattle.std.proofs.Common.{◌≡◌, ℕ, false, Some, None, refl, sym, ap, ◌∙◌, subst}
use Rattle.std.specs.Prelude.{IfNone}
use Rattle.pt_waitq.specs.Queues.{is_queued_in}
use Rattle.pt_waitq.specs.Waits.{queue_in}
use Rattle.pt_chains.specs.Chains.{queued_waiters, entry_of_client}
use Rattle.pt_waitq.proofs.ChangeLemmas.{found-only, found-nowhere, found-in, nowhere-in, read-as}
use Rattle.pt_chains.proofs.ChainLemmas.{entry-there, entry-nowhere}
use Rattle.pt_chains.proofs.StepLemmas.{place-entry}
use Rattle.pt_chains.proofs.GrowthLemmas.{if-none}
use Rattle.pt_chains.proofs.chains.ChainsWaitList.at.Goals as goal

pub returns-in_err-place-clause-nowhere : goal.returns-in_err-place-clause-nowhere
returns-in_err-place-clause-nowhere g c =
    let es = queued_waiters c.self.inside.log.items in
    let client = c.args.client in
    let homes = c.self.inside.homes.map.entries in
    let nodes = c.self.inside.nodes.slots in
    let is = sym c.in_err-place.ensures.none
    ∙ (ap (entry_of_client homes nodes) c.client.view_is ∙ c.self.invariant.0.own client) in
    let none = entry-nowhere client es None is in
    subst (λ o. IfNone o ((q : ℕ) → is_queued_in client (queue_in c.args.self.now q) ≡ false))
    (sym c.from_residual.ensures)
    (nowhere-in client _ (queue_in c.args.self.now) None
    (read-as _ _ es es _ c.self.view_is c.self.invariant.0.queued refl)
    (found-nowhere client es None none))

pub returns-clause-found : goal.returns-clause-found
returns-clause-found g c =
    let es = queued_waiters c.self.inside.log.items in
    let client = c.args.client in
    let homes = c.self.inside.homes.map.entries in
    let nodes = c.self.inside.nodes.slots in
    let place = c.in_ok-place.place in
    let there = place-entry homes nodes c.client.inside.0 place.node _
    c.in_ok-place.ensures.home c.in_ok-place.ensures.node in
    let is = sym there
    ∙ (ap (entry_of_client homes nodes) c.client.view_is ∙ c.self.invariant.0.own client) in
    let found = entry-there client es (Some (place.object, place.waiter)) is in
    let only = found-only client es (Some (place.object, place.waiter))
    c.self.invariant.0.queued.once found in
    found-in client _ (queue_in c.args.self.now) (Some (place.object, place.waiter))
    (read-as _ _ es es _ c.self.view_is c.self.invariant.0.queued refl) only

pub returns-in_err-place-clause-found : goal.returns-in_err-place-clause-found
returns-in_err-place-clause-found g c = if-none c.from_residual.result _ c.from_residual.ensures
