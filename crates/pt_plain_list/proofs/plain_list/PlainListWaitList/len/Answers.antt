use Rattle.std.proofs.Common.{ap, ◌∙◌, length}
use Rattle.pt_waitq.proofs.ChangeLemmas.{read-as}
use Rattle.pt_plain_list.proofs.plain_list.PlainListWaitList.len.Goals as goal

pub returns : goal.returns
returns g c =
    let stand = c.self.invariant.0 in
    c.count_of.ensures
    ∙ ap length (read-as _ _ _ _ _ c.self.view_is stand c.deref.ensures.value c.args.object)
