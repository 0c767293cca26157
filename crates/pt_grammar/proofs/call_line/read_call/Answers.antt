use Rattle.std.proofs.Common.{◌∙◌, ap, arith}
use Rattle.std.specs.Option.{ok_or}
use Rattle.pt_types.specs.declared.outcome.Refusal.TheVariants.{Syntax}
use Rattle.pt_grammar.proofs.GrammarLemmas.{found_by, length-spelled, line_read-spelled}
use Rattle.pt_grammar.proofs.call_line.read_call.Goals as goal

pub returns-then-text-gt-MAX_LINE_LENGTH-clause-exact :
    goal.returns-then-text-gt-MAX_LINE_LENGTH-clause-exact
returns-then-text-gt-MAX_LINE_LENGTH-clause-exact c =
    λ line s. let short = length-spelled c.args.text.now line s in absurd (omega arith)

pub returns-clause-found : goal.returns-clause-found
returns-clause-found c =
    found_by c.args.text.now c.read_text.result c.ok_or.result c.read_text.ensures
    c.ok_or.ensures.value

pub returns-clause-exact : goal.returns-clause-exact
returns-clause-exact c =
    λ line s. c.ok_or.ensures.value
    ∙ ap (λ o. ok_or o Syntax)
    (c.read_text.ensures ∙ line_read-spelled c.args.text.now line s)
