use Rattle.std.proofs.Common.{ap, ◌∙◌}
use Rattle.pt_waitq.specs.Queues.{first_writer_of}
use Rattle.pt_waitq.proofs.ChangeLemmas.{read-as}
use Rattle.pt_plain_list.proofs.plain_list.PlainListWaitList.first_writer.Goals as goal

pub returns : goal.returns
returns g c =
    let stand = c.self.invariant.0 in
    c.first_writer_of.ensures
    ∙ ap first_writer_of
    (read-as _ _ _ _ _ c.self.view_is stand c.deref.ensures.value c.args.object)
