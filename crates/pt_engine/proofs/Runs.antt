-- Lines one after another: what is written for them, and how many there are.
use Rattle.std.proofs.Common.{◌≡◌, ℕ, ◌+◌, List, [], ◌∷◌, ◌++◌, length, map, Result, Ok, Err, refl}
use Rattle.std.proofs.Common.{sym, ap, subst, ◌∙◌, append_assoc, append-nil, length-append, arith}
use Rattle.std.proofs.lemmas.List.{map-append}
use Rattle.std.proofs.Math.ListN.{length-map}
use Rattle.pt_grammar.specs.declared.cut.Cut.{Cut}
use Rattle.pt_grammar.specs.declared.script_line.ScriptLine.{ScriptLine}
use Rattle.pt_grammar.specs.Lines.{CutterView, lines_to_come}
use Rattle.pt_grammar.specs.Script.{script_of, IsNextScriptLine}
use Rattle.pt_types.specs.declared.outcome.Refusal.{Refusal}
use Rattle.pt_model.specs.declared.entry.Event.{Event}
use Rattle.pt_engine.specs.declared.line_id.LineId.{LineId}
use Rattle.pt_engine.specs.Scripts.{Script, line_id, event_of_line}
use Rattle.pt_engine.specs.LineAnswers.{AnswersLine, AnswersLines, AnswersEvent, AnswersRequest}
use Rattle.pt_engine.specs.LineAnswers.{count_line, refuses, lacks, accepts}
use Rattle.pt_engine.specs.Engines.{Appends, AnswersBetween, AnswersCuts}

-- one line
pub says_one : (s : Script) (line : ScriptLine) (next : Script) (text : List ℕ)
    → AnswersLine s line next text → AnswersLines s (line ∷ []) next text
says_one s line next text says = (next, text, [], says, (refl, refl), sym (append-nil text))

-- some lines, followed by more
pub says_join : (s : Script) (xs : List ScriptLine) (mid : Script) (text : List ℕ)
    (ys : List ScriptLine) (last : Script) (more : List ℕ)
    → AnswersLines s xs mid text → AnswersLines mid ys last more → AnswersLines s (xs
    ++ ys) last (text ++ more)
says_join s [] mid text ys last more says then =
    subst (λ t. AnswersLines s ys last (t ++ more)) (sym says.1)
    (subst (λ m. AnswersLines m ys last more) says.0 then)
says_join s (x ∷ xs) mid text ys last more says then = (
  says.0,
  says.1,
  says.2 ++ more,
  says.3,
  says_join says.0 xs mid says.2 ys last more says.4 then,
  ap (λ t. t ++ more) says.5 ∙ append_assoc says.1 says.2 more,
)

seen_of : (s : Script) (v : Event) (line : LineId) (next : Script) (text : List ℕ)
    → AnswersEvent s v line next text → next.seen ≡ s.seen
seen_of s v line next text (refuses h) = ap (λ n. n.seen) h.same
seen_of s v line next text (lacks h) = ap (λ n. n.seen) h.same
seen_of s v line next text (accepts h) = h.seen

seen_to : (s : Script) (line : LineId) (r : Result Event Refusal) (next : Script) (text : List ℕ)
    → AnswersRequest s line r next text → next.seen ≡ s.seen
seen_to s line (Err why) next text says = ap (λ n. n.seen) says.0
seen_to s line (Ok v) next text says = seen_of s v line next text says

-- one more line was seen
pub says_seen : (s : Script) (line : ScriptLine) (next : Script) (text : List ℕ)
    → AnswersLine s line next text → length next.seen ≡ length s.seen + 1
says_seen s line next text says =
    ap length
    (seen_to (count_line s line.who) (line_id s line.who) (event_of_line s line) next text says)
    ∙ length-append s.seen (line.who ∷ [])

-- as many more lines were seen as there are in the list
pub says_all_seen : (s : Script) (xs : List ScriptLine) (last : Script) (text : List ℕ)
    → AnswersLines s xs last text → length last.seen ≡ length s.seen + length xs
says_all_seen s [] last text says = ap (λ n. length n.seen) says.0 ∙ omega arith
says_all_seen s (x ∷ xs) last text says =
    let one = says_seen s x says.0 says.1 says.3 in
    let rest = says_all_seen says.0 xs last says.2 says.4 in
    omega (arith, one, rest)

-- no line yet
pub answers_none : (held : CutterView) (s : Script) (out : List ℕ)
    → AnswersBetween held s out held s out
answers_none held s out = record {
  cuts = [];
  given = λ more. refl;
  answered = record { text = []; says = (refl, refl); grows = sym (append-nil out) };
}

-- one more line
pub answers_one : (held : CutterView) (s : Script) (out : List ℕ) (mid : CutterView) (t : Script)
    (text : List ℕ) (next : CutterView) (last : Script) (new : List ℕ) (cut : Cut)
    → AnswersBetween held s out mid t text → ((more : List ℕ) → lines_to_come mid more ≡ cut
    ∷ lines_to_come next more)
    → Appends (AnswersLine t (script_of cut) last) text new
    → AnswersBetween held s out next last new
answers_one held s out mid t text next last new cut before gives adds = record {
  cuts = before.cuts ++ cut ∷ [];
  given = λ more.
      before.given more
      ∙ ap (λ xs. before.cuts ++ xs) (gives more)
      ∙ sym (append_assoc before.cuts (cut ∷ []) (lines_to_come next more));
  answered = record {
    text = before.answered.text ++ adds.text;
    says =
        subst (λ xs. AnswersLines s xs last (before.answered.text ++ adds.text))
        (sym (map-append script_of before.cuts (cut ∷ [])))
        (says_join s (map script_of before.cuts) t before.answered.text (script_of cut ∷ []) last
        adds.text before.answered.says (says_one t (script_of cut) last adds.text adds.holds));
    grows =
        adds.grows
        ∙ ap (λ xs. xs ++ adds.text) before.answered.grows
        ∙ append_assoc out before.answered.text adds.text;
  };
}

-- one more line, as it was read
pub answers_next : (held : CutterView) (s : Script) (out : List ℕ) (mid : CutterView) (t : Script)
    (text : List ℕ) (next : CutterView) (last : Script) (new : List ℕ) (line : ScriptLine)
    → AnswersBetween held s out mid t text → IsNextScriptLine mid line next
    → Appends (AnswersLine t line last) text new → AnswersBetween held s out next last new
answers_next held s out mid t text next last new line before gives adds =
    answers_one held s out mid t text next last new gives.cut before gives.given
    (subst (λ l. Appends (AnswersLine t l last) text new) gives.read adds)

-- no more line
pub answers_same : (held : CutterView) (s : Script) (out : List ℕ) (mid next : CutterView)
    (last : Script)
    (new : List ℕ) → AnswersBetween held s out mid last new
    → ((more : List ℕ) → lines_to_come mid more ≡ lines_to_come next more)
    → AnswersBetween held s out next last new
answers_same held s out mid next last new before same = record {
  cuts = before.cuts;
  given = λ more. before.given more ∙ ap (λ xs. before.cuts ++ xs) (same more);
  answered = before.answered;
}

-- some lines, followed by more
pub answers_join : (held : CutterView) (s : Script) (out : List ℕ) (mid : CutterView) (t : Script)
    (text : List ℕ) (next : CutterView) (last : Script) (new : List ℕ)
    → AnswersBetween held s out mid t text → AnswersBetween mid t text next last new
    → AnswersBetween held s out next last new
answers_join held s out mid t text next last new before after = record {
  cuts = before.cuts ++ after.cuts;
  given = λ more.
      before.given more
      ∙ ap (λ xs. before.cuts ++ xs) (after.given more)
      ∙ sym (append_assoc before.cuts after.cuts (lines_to_come next more));
  answered = record {
    text = before.answered.text ++ after.answered.text;
    says =
        subst (λ xs. AnswersLines s xs last (before.answered.text ++ after.answered.text))
        (sym (map-append script_of before.cuts after.cuts))
        (says_join s (map script_of before.cuts) t before.answered.text
        (map script_of after.cuts) last after.answered.text before.answered.says
        after.answered.says);
    grows =
        after.answered.grows
        ∙ ap (λ xs. xs ++ after.answered.text) before.answered.grows
        ∙ append_assoc out before.answered.text after.answered.text;
  };
}

-- the number of lines that remain
pub answers_few : (held : CutterView) (s : Script) (out : List ℕ) (next : CutterView)
    (last : Script)
    (new : List ℕ) → AnswersBetween held s out next last new
    → length last.seen + length (lines_to_come next [])
    ≡ length s.seen + length (lines_to_come held [])
answers_few held s out next last new a =
    let seen = says_all_seen s (map script_of a.cuts) last a.answered.text a.answered.says in
    let same : length (map script_of a.cuts) ≡ length a.cuts = simp length-map in
    let all = ap length (a.given []) ∙ length-append a.cuts (lines_to_come next []) in
    omega (arith, seen, same, all)

-- with a last line
pub last_some : (s : Script) (cuts : List Cut) (cut : Cut) (old : List ℕ) (last : Script)
    (new : List ℕ) → cuts ≡ cut ∷ [] → Appends (AnswersLine s (script_of cut) last) old new
    → AnswersCuts s cuts old last new
last_some s cuts cut old last new is adds = record {
  text = adds.text;
  says =
      subst (λ xs. AnswersLines s (map script_of xs) last adds.text) (sym is)
      (says_one s (script_of cut) last adds.text adds.holds);
  grows = adds.grows;
}

-- without a last line
pub last_none : (s : Script) (cuts : List Cut) (out : List ℕ) → cuts ≡ []
    → AnswersCuts s cuts out s out
last_none s cuts out is = record {
  text = [];
  says = subst (λ xs. AnswersLines s (map script_of xs) s []) (sym is) (refl, refl);
  grows = sym (append-nil out);
}
