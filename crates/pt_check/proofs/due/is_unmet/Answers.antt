use Rattle.std.proofs.Common.{◌∙◌, codes}
use Rattle.pt_check.proofs.Meeting.{ends_so}
use Rattle.pt_check.proofs.due.is_unmet.Goals as goal

pub returns : goal.returns
returns c = λ front is.
    c.ends_with.ensures.value
    ∙ ends_so (Rattle.std.specs.contracts.prelude.U8PartialEq.TheImpl.ghosts).eq front
    c.args.text.now (codes " ENOMEM\n") is
