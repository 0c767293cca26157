use Rattle.std.proofs.Common.{◌∙◌, ◌∷◌, ap, sym}
use Rattle.pt_grammar.proofs.WordLemmas.{wait_spelled}
use Rattle.pt_grammar.proofs.named_start.wait_at_start.Goals as goal

pub returns : goal.returns
returns c =
    let cond = c.in_ok-cond.cond.now in
    wait_spelled c.args.text.now c.in_ok-args.args.now cond c.in_ok-mutex.mutex.now
    c.in_ok-args.ensures
    (sym c.new-fields.ensures ∙ c.in_ok-cond.ensures
    ∙ ap (λ fs. cond ∷ fs) (sym c.in_ok-mutex.ensures))
