-- TellingLemmas: explanations are a way to tell what came of lines.
use Rattle.std.proofs.Common.{◌≡◌, ℕ, ◌+◌, List, [], ◌∷◌, ◌++◌, length, refl, sym, ap, subst, ◌∙◌}
use Rattle.std.proofs.Common.{append_assoc, arith}
use Rattle.pt_grammar.specs.declared.cut.Cut.{Cut}
use Rattle.pt_grammar.specs.Script.{script_of}
use Rattle.pt_engine.specs.Scripts.{Script}
use Rattle.pt_engine.proofs.Runs.{says_seen}
use Rattle.pt_script.specs.Tellings.{IsTelling}
use Rattle.pt_explain.specs.Explanations.{explains}

-- some lines, followed by more
pub explains_join : (s : Script) (xs : List Cut) (mid : Script) (text : List ℕ) (ys : List Cut)
    (last : Script) (more : List ℕ) → explains s xs mid text → explains mid ys last more
    → explains s (xs ++ ys) last (text ++ more)
explains_join s [] mid text ys last more says then =
    subst (λ t. explains s ys last (t ++ more)) (sym says.1)
    (subst (λ m. explains m ys last more) says.0 then)
explains_join s (x ∷ xs) mid text ys last more says then = (
  says.0,
  says.1,
  says.2 ++ more,
  says.3,
  explains_join says.0 xs mid says.2 ys last more says.4 then,
  ap (λ t. t ++ more) says.5 ∙ append_assoc says.1 says.2 more,
)

-- each line is counted
pub explains_seen : (s : Script) (xs : List Cut) (last : Script) (text : List ℕ)
    → explains s xs last text → length last.seen ≡ length s.seen + length xs
explains_seen s [] last text says = ap (λ n. length n.seen) says.0 ∙ omega arith
explains_seen s (x ∷ xs) last text says =
    let one = says_seen s (script_of x) says.0 says.3.answers says.3.says in
    let rest = explains_seen says.0 xs last says.2 says.4 in
    omega (arith, one, rest)

pub explains_telling : IsTelling explains
explains_telling = record {
  none = λ s. (refl, refl);
  join = explains_join;
  counts = explains_seen;
}
