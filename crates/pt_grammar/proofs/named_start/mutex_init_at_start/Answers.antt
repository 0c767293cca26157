use Rattle.std.proofs.Common.{◌∙◌, sym}
use Rattle.pt_grammar.proofs.WordLemmas.{mutex_init_spelled}
use Rattle.pt_grammar.proofs.named_start.mutex_init_at_start.Goals as goal

pub returns : goal.returns
returns c =
    mutex_init_spelled c.args.text.now c.in_ok-args.args.now c.in_ok-name.name.now c.next.new.self
    (c.in_ok-kind.kind, c.in_ok-kind.robust) c.in_ok-args.ensures
    (sym c.new-fields.ensures ∙ c.in_ok-name.ensures) (sym c.in_ok-kind.ensures)
