use Rattle.std.proofs.Common.{refl, ◌∙◌}
use Rattle.pt_waitq.proofs.ChangeLemmas.{stand-fewer, queue-change, read-as}
use Rattle.pt_plain_list.proofs.plain_list.PlainListWaitList.discard.Goals as goal

pub invariant_of-self : goal.invariant_of-self
invariant_of-self g c =
    let object = c.args.object in
    let stand = c.self.invariant.0 in
    let empty = read-as _ _ _ _ _ c.self.view_is stand refl object ∙ c.requires.empty in
    (stand-fewer _ _ object _ stand c.unmake.ensures empty, c.self.invariant.1, c.self.invariant.2)

pub returns-clause-queues : goal.returns-clause-queues
returns-clause-queues g c = λ q.
    let object = c.args.object in
    let stand = c.self.invariant.0 in
    let empty = read-as _ _ _ _ _ c.self.view_is stand refl object ∙ c.requires.empty in
    let now = stand-fewer _ _ object _ stand c.unmake.ensures empty in
    queue-change _ _ _ _ _ _ c.self.view_is stand now (λ ws. ws) q refl
