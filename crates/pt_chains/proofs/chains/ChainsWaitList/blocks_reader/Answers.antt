use Rattle.std.proofs.Common.{◌≡◌, ◌+◌, ◌-◌, refl, ap, ◌∙◌, arith}
use Rattle.std.specs.List.{list_any}
use Rattle.pt_waitq.specs.Queues.{blocks_readers_from}
use Rattle.pt_waitq.specs.Waits.{queue_of}
use Rattle.pt_chains.specs.Chains.{queued_waiters}
use Rattle.pt_waitq.proofs.ChangeLemmas.{read-as}
use Rattle.pt_chains.proofs.FirstLemmas.{back-told}
use Rattle.pt_chains.proofs.chains.ChainsWaitList.blocks_reader.Goals as goal

pub returns : goal.returns
returns g c =
    let es = queued_waiters c.self.inside.log.items in
    let found = c.has_writer_from.ensures in
    let level : (c.level.result - 1) + 1 ≡ c.args.prio =
    omega (arith, c.level.ensures.value, c.level.ensures.least) in
    back-told c.self.inside.homes.map.entries c.self.inside.nodes.slots
    c.self.inside.queues es c.self.invariant.0 c.object.inside.0
    c.has_writer_from.result (c.level.result - 1) c.args.prio level found.none found.queue
    ∙ (ap (λ o. list_any (blocks_readers_from c.args.prio) (queue_of o es)) c.object.view_is
    ∙ ap (list_any (blocks_readers_from c.args.prio))
    (read-as _ _ es es _ c.self.view_is c.self.invariant.0.queued refl c.args.object))
