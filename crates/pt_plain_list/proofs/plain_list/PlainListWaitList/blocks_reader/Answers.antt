use Rattle.std.proofs.Common.{ap, ◌∙◌}
use Rattle.std.specs.List.{list_any}
use Rattle.pt_waitq.specs.Queues.{blocks_readers_from}
use Rattle.pt_waitq.proofs.ChangeLemmas.{read-as}
use Rattle.pt_plain_list.proofs.plain_list.PlainListWaitList.blocks_reader.Goals as goal

pub returns : goal.returns
returns g c =
    let stand = c.self.invariant.0 in
    c.blocks_reader.ensures
    ∙ ap (list_any (blocks_readers_from c.args.prio))
    (read-as _ _ _ _ _ c.self.view_is stand c.deref.ensures.value c.args.object)
