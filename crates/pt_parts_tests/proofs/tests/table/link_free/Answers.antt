use Rattle.std.proofs.Common.{◌∙◌, ◌||◌, ap}
use Rattle.pt_table.specs.Linked.{is_linked}
use Rattle.pt_table.proofs.ChainCallers.{same-has}
use Rattle.pt_parts_tests.proofs.tests.table.link_free.Goals as goal

pub returns-clause-free : goal.returns-clause-free
returns-clause-free c = λ n apart free. (
  same-has c.args.objects.now c.link.new.self c.link.ensures.rows n ∙ free.0,
  c.link.ensures.linked n ∙ ap (λ b. b || is_linked c.args.objects.now n) apart ∙ free.1,
)
