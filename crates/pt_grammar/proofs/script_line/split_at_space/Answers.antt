use Rattle.std.proofs.Common.{◌≡◌, ◌∙◌, ◌+◌, ◌-◌, ap, sym, take, drop, length, List, ℕ, Some, arith}
use Rattle.std.proofs.lemmas.Grind.{common_steps}
use Rattle.pt_grammar.proofs.ClientLemmas.{before-found, behind-found, before-missing}
use Rattle.pt_grammar.proofs.ClientLemmas.{behind-missing}
use Rattle.pt_grammar.proofs.script_line.split_at_space.Goals as goal

to_end : (n : ℕ) (xs : List ℕ) → take (length xs - n) (drop n xs) ≡ drop n xs
to_end n xs = grind (arith, common_steps)

pub returns-in-Some-clause-before : goal.returns-in-Some-clause-before
returns-in-Some-clause-before c =
    sym (before-found c.args.text.now c.in-Some.end c.in-Some.ensures)

pub returns-in-Some-clause-rest : goal.returns-in-Some-clause-rest
returns-in-Some-clause-rest c =
    ap Some (to_end (c.in-Some.end + 1) c.args.text.now)
    ∙ sym (behind-found c.args.text.now c.in-Some.end c.in-Some.ensures)

pub returns-in-None-clause-before : goal.returns-in-None-clause-before
returns-in-None-clause-before c = sym (before-missing c.args.text.now c.in-None.ensures)

pub returns-in-None-clause-rest : goal.returns-in-None-clause-rest
returns-in-None-clause-rest c = sym (behind-missing c.args.text.now c.in-None.ensures)
