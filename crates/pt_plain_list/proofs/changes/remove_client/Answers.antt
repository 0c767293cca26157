use Rattle.std.proofs.Common.{ap, ◌∙◌, ◌||◌}
use Rattle.pt_waitq.specs.Waits.{is_listed, has_waiter}
use Rattle.pt_plain_list.proofs.AdmittedLemmas.{dismissed}
use Rattle.pt_plain_list.proofs.changes.remove_client.Goals as goal

pub returns-clause-admitted : goal.returns-clause-admitted
returns-clause-admitted g c = λ d.
    let es = c.args.waiting.now in
    ap (λ cs. is_listed d cs || has_waiter d es) c.forget_client.ensures.others
    ∙ dismissed c.args.client c.args.idle.now.items es c.requires d
