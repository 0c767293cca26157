use Rattle.std.proofs.Common.{◌∙◌, ap}
use Rattle.std.specs.Option.{option_and_then}
use Rattle.pt_grammar.specs.Arguments.{read_moment, two_numbers}
use Rattle.pt_grammar.proofs.ScriptLemmas.{moment_said}
use Rattle.pt_grammar.proofs.named_start.moment_at_start.Goals as goal

pub returns : goal.returns
returns c =
    moment_said c.args.text.now c.in_ok-args.args.now c.only_moment.result c.in_ok-args.ensures
    (c.only_moment.ensures ∙ ap (λ fs. option_and_then read_moment (two_numbers fs)) c.new.ensures)
