use Rattle.std.proofs.Common.{ap, sym, ◌∙◌}
use Rattle.pt_history.specs.declared.compact.Word.{Word}
use Rattle.pt_history.specs.Compact.{call_of_word}
use Rattle.pt_history.proofs.compact.call_of.Goals as goal

pub returns-in-Named : goal.returns-in-Named
returns-in-Named c =
    c.call.ensures ∙ sym (ap (λ (w : Word). call_of_word w c.args.name) c.in-Named.is)
