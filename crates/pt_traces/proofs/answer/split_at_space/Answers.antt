use Rattle.std.proofs.Common.{◌≡◌, ◌∙◌, ◌+◌, ◌-◌, ap, sym, take, drop, length, List, ℕ, arith}
use Rattle.std.proofs.lemmas.Grind.{common_steps}
use Rattle.pt_grammar.proofs.ClientLemmas.{before-found, behind-found, before-missing}
use Rattle.pt_grammar.proofs.ClientLemmas.{behind-missing}
use Rattle.pt_traces.specs.Answers.{rest_or_empty}
use Rattle.pt_traces.proofs.RowLemmas.{to_end, none_left}
use Rattle.pt_traces.proofs.answer.split_at_space.Goals as goal

pub returns-in-Some-clause-before : goal.returns-in-Some-clause-before
returns-in-Some-clause-before c =
    sym (before-found c.args.text.now c.in-Some.end c.in-Some.ensures)

pub returns-in-Some-clause-rest : goal.returns-in-Some-clause-rest
returns-in-Some-clause-rest c =
    to_end (c.in-Some.end + 1) c.args.text.now
    ∙ sym (ap rest_or_empty (behind-found c.args.text.now c.in-Some.end c.in-Some.ensures))

pub returns-in-None-clause-before : goal.returns-in-None-clause-before
returns-in-None-clause-before c = sym (before-missing c.args.text.now c.in-None.ensures)

pub returns-in-None-clause-rest : goal.returns-in-None-clause-rest
returns-in-None-clause-rest c =
    none_left c.args.text.now ∙ sym (ap rest_or_empty
    (behind-missing c.args.text.now c.in-None.ensures))
