-- Explanations of lines, one after another, and how many lines there are.
use Rattle.std.proofs.Common.{◌≡◌, ℕ, ◌+◌, List, [], ◌∷◌, ◌++◌, length, refl, sym, ap, subst, ◌∙◌}
use Rattle.std.proofs.Common.{append_assoc, append-nil, length-append, arith}
use Rattle.pt_grammar.specs.declared.cut.Cut.{Cut}
use Rattle.pt_grammar.specs.Lines.{CutterView, lines_to_come}
use Rattle.pt_engine.specs.Scripts.{Script}
use Rattle.pt_engine.specs.Engines.{Appends}
use Rattle.pt_script.specs.Tellings.{TellsBetween, TellsCuts}
use Rattle.pt_explain.specs.Explanations.{Explains, explains}
use Rattle.pt_explain.specs.TellingLemmas.{explains_join, explains_seen}

-- one line
one_line : (s : Script) (cut : Cut) (next : Script) (text : List ℕ) → Explains s cut next text
    → explains s (cut ∷ []) next text
one_line s cut next text says = (next, text, [], says, (refl, refl), sym (append-nil text))

-- no line yet
pub told_none : (held : CutterView) (s : Script) (out : List ℕ)
    → TellsBetween explains held s out held s out
told_none held s out = record {
  cuts = [];
  given = λ more. refl;
  appends = record { text = []; tells = (refl, refl); grows = sym (append-nil out) };
}

-- no line, though the cutter changed
pub told_same : (held next : CutterView) (s : Script) (out : List ℕ)
    → ((more : List ℕ) → lines_to_come held more ≡ lines_to_come next more)
    → TellsBetween explains held s out next s out
told_same held next s out same = record {
  cuts = [];
  given = same;
  appends = record { text = []; tells = (refl, refl); grows = sym (append-nil out) };
}

-- one more line
pub told_one : (held next : CutterView) (s last : Script) (out new : List ℕ) (cut : Cut)
    → ((more : List ℕ) → lines_to_come held more ≡ cut ∷ lines_to_come next more)
    → Appends (Explains s cut last) out new → TellsBetween explains held s out next last new
told_one held next s last out new cut gives adds = record {
  cuts = cut ∷ [];
  given = gives;
  appends = record {
    text = adds.text;
    tells = one_line s cut last adds.text adds.holds;
    grows = adds.grows;
  };
}

-- some lines, followed by more
pub told_join : (held : CutterView) (s : Script) (out : List ℕ) (mid : CutterView) (t : Script)
    (text : List ℕ) (next : CutterView) (last : Script) (new : List ℕ)
    → TellsBetween explains held s out mid t text → TellsBetween explains mid t text next last new
    → TellsBetween explains held s out next last new
told_join held s out mid t text next last new before after = record {
  cuts = before.cuts ++ after.cuts;
  given = λ more.
      before.given more
      ∙ ap (λ xs. before.cuts ++ xs) (after.given more)
      ∙ sym (append_assoc before.cuts after.cuts (lines_to_come next more));
  appends = record {
    text = before.appends.text ++ after.appends.text;
    tells =
        explains_join s before.cuts t before.appends.text after.cuts last after.appends.text
        before.appends.tells after.appends.tells;
    grows =
        after.appends.grows
        ∙ ap (λ xs. xs ++ after.appends.text) before.appends.grows
        ∙ append_assoc out before.appends.text after.appends.text;
  };
}

-- the number of lines that remain
pub told_few : (held : CutterView) (s : Script) (out : List ℕ) (next : CutterView) (last : Script)
    (new : List ℕ) → TellsBetween explains held s out next last new
    → length last.seen + length (lines_to_come next [])
    ≡ length s.seen + length (lines_to_come held [])
told_few held s out next last new a =
    let seen = explains_seen s a.cuts last a.appends.text a.appends.tells in
    let all = ap length (a.given []) ∙ length-append a.cuts (lines_to_come next []) in
    omega (arith, seen, all)

-- with a last line
pub last_some : (s : Script) (cuts : List Cut) (cut : Cut) (old : List ℕ) (last : Script)
    (new : List ℕ) → cuts ≡ cut ∷ [] → Appends (Explains s cut last) old new
    → TellsCuts explains s cuts old last new
last_some s cuts cut old last new is adds = record {
  text = adds.text;
  tells =
      subst (λ xs. explains s xs last adds.text) (sym is)
      (one_line s cut last adds.text adds.holds);
  grows = adds.grows;
}

-- without a last line
pub last_none : (s : Script) (cuts : List Cut) (out : List ℕ) → cuts ≡ []
    → TellsCuts explains s cuts out s out
last_none s cuts out is = record {
  text = [];
  tells = subst (λ xs. explains s xs s []) (sym is) (refl, refl);
  grows = sym (append-nil out);
}
