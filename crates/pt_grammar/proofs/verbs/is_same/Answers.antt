use Rattle.std.proofs.Common.{◌≡◌, ◌∙◌, ◌≤◌, ℕ, List, length, take, sym, arith}
use Rattle.std.proofs.lemmas.Grind.{common_steps}
use Rattle.std.proofs.lemmas.Slice.Eq.{bytes_eq-Decides}
use Rattle.pt_grammar.proofs.verbs.is_same.Goals as goal

all_taken : (n : ℕ) (xs : List ℕ) → length xs ≤ n → take n xs ≡ xs
all_taken n xs le = grind (arith, common_steps)

pub returns : goal.returns
returns c =
    let word = c.args.word.now in
    let text = c.args.text.now in
    let n = c.loop-place.place in
    let same =
    sym (all_taken n word (omega arith)) ∙ c.loop-place.invariant
    ∙ all_taken n text (omega arith) in
    sym ((bytes_eq-Decides word text).1 same)
