-- TellingLemmas: the answers to lines are a way to tell what came of them.
use Rattle.std.proofs.Common.{◌≡◌, ℕ, ◌+◌, List, ◌++◌, length, map, refl, sym, subst, arith}
use Rattle.std.proofs.lemmas.List.{map-append}
use Rattle.std.proofs.Math.ListN.{length-map}
use Rattle.pt_grammar.specs.declared.cut.Cut.{Cut}
use Rattle.pt_grammar.specs.Script.{script_of}
use Rattle.pt_engine.specs.Scripts.{Script}
use Rattle.pt_engine.specs.LineAnswers.{AnswersLines}
use Rattle.pt_engine.proofs.Runs.{says_join, says_all_seen}
use Rattle.pt_script.specs.Tellings.{IsTelling, answers}

-- some lines, followed by more
answers_join : (s : Script) (xs : List Cut) (mid : Script) (text : List ℕ) (ys : List Cut)
    (last : Script) (more : List ℕ) → answers s xs mid text → answers mid ys last more
    → answers s (xs ++ ys) last (text ++ more)
answers_join s xs mid text ys last more says then =
    subst (λ ls. AnswersLines s ls last (text ++ more)) (sym (map-append script_of xs ys))
    (says_join s (map script_of xs) mid text (map script_of ys) last more says then)

-- each line is counted
answers_seen : (s : Script) (xs : List Cut) (last : Script) (text : List ℕ)
    → answers s xs last text → length last.seen ≡ length s.seen + length xs
answers_seen s xs last text says =
    let seen = says_all_seen s (map script_of xs) last text says in
    let same : length (map script_of xs) ≡ length xs = simp length-map in
    omega (arith, seen, same)

pub answers_telling : IsTelling answers
answers_telling = record {
  none = λ s. (refl, refl);
  join = answers_join;
  counts = answers_seen;
}
