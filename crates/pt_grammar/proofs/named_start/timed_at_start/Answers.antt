use Rattle.std.proofs.Common.{◌∙◌, sym}
use Rattle.pt_grammar.specs.Verbs.{timed_word}
use Rattle.pt_grammar.proofs.CallLineLemmas.{begins}
use Rattle.pt_grammar.proofs.WordLemmas.{timed_spelled}
use Rattle.pt_grammar.proofs.named_start.timed_at_start.Goals as goal

pub returns : goal.returns
returns c =
    let args = c.in_ok-verb.args.now in
    timed_spelled c.args.text.now args c.in_ok-name.name.now c.next.new.self c.in_ok-verb.verb
    c.in_ok-deadline.deadline
    (c.in_ok-verb.ensures ∙ begins (timed_word c.in_ok-verb.verb) args)
    (sym c.new-fields.ensures ∙ c.in_ok-name.ensures)
    (sym c.in_ok-deadline.ensures)
