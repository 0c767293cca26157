use Rattle.std.proofs.Common.{length, refl, ap, ◌∙◌}
use Rattle.pt_waitq.specs.Waits.{queue_of}
use Rattle.pt_chains.specs.Chains.{queued_waiters}
use Rattle.pt_waitq.proofs.ChangeLemmas.{read-as}
use Rattle.pt_chains.proofs.ChainLemmas.{len-told}
use Rattle.pt_chains.proofs.chains.ChainsWaitList.len.Goals as goal

pub returns : goal.returns
returns g c =
    let es = queued_waiters c.self.inside.log.items in
    len-told _ _ _ es c.self.invariant.0 c.object.inside.0 _ c.len_of.ensures
    ∙ (ap (λ o. length (queue_of o es)) c.object.view_is
    ∙ ap length (read-as _ _ es es _ c.self.view_is c.self.invariant.0.queued refl c.args.object))
