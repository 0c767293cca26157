use Rattle.std.proofs.Common.{ap, ℕ, ◌∙◌}
use Rattle.pt_waitq.specs.Waits.{is_listed}
use Rattle.pt_waitq.specs.ListLemmas.{any-without}
use Rattle.pt_plain_list.proofs.changes.unmake.Goals as goal

pub returns : goal.returns
returns g c = λ q.
    ap (is_listed q) c.forget_object.ensures
    ∙ any-without (λ (o : ℕ). o) c.args.object q c.args.objects.now.items
