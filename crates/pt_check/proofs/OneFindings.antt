-- OneFindings: one thing is found of a trace.
use Rattle.std.proofs.Common.{◌≡◌, ◌∙◌, ◌+◌, ◌-◌, ◌<◌, ◌++◌, ℕ, zero, suc, Bool, false, List}
use Rattle.std.proofs.Common.{[], ◌∷◌, length, take, drop, refl, sym, ap, subst, append_assoc}
use Rattle.std.proofs.Common.{arith}
use Rattle.std.proofs.Math.Seq.{drop-append_seam}
use Rattle.pt_grammar.specs.declared.script_line.ScriptLine.{ScriptLine}
use Rattle.pt_grammar.specs.Script.{script_of}
use Rattle.pt_engine.specs.Scripts.{Script, empty_script}
use Rattle.pt_script.specs.Laws.{OneText, AnswersLinesIf}
use Rattle.pt_traces.specs.Blocks.{SeenBlock}
use Rattle.pt_check.specs.declared.found.Found.{Found}
use Rattle.pt_check.specs.declared.found.Found.TheVariants.{Agrees, Differs}
use Rattle.pt_check.specs.Agreements.{AgreesFrom, Finds, IsAnswered, IsFirstDifference, Met}
use Rattle.pt_check.specs.Agreements.{answers_in}

-- the lines of blocks
abbrev lines_of : List SeenBlock → List ScriptLine
lines_of [] = []
lines_of (b ∷ bs) = script_of b.line ∷ lines_of bs

abbrev never : ℕ → Bool
never k = false

-- some blocks, followed by a line
abbrev Follows : Script → List SeenBlock → List ℕ → ScriptLine → Script → List ℕ → Type 0
Follows s bs text line next due =
    AnswersLinesIf never s (lines_of bs ++ line ∷ []) next (text ++ due)

record Run (s : Script) (bs : List SeenBlock) (mid : Script) : Type 0 where
  pub text : List ℕ
  pub says : AnswersLinesIf never s (lines_of bs) mid text
  pub more :
      (line : ScriptLine) (next : Script) (due : List ℕ) → Met mid line next due
      → Follows s bs text line next due

run_of : (s : Script) (bs : List SeenBlock) (mid : Script) → AgreesFrom s bs mid → Run s bs mid
run_of s [] mid agree = record {
  text = [];
  says = (agree, refl);
  more = λ line next due met. (
    next,
    due,
    [],
    subst (λ m. Met m line next due) agree met,
    (refl, refl),
    sym (append_nil due),
  );
}
  where
    append_nil : (xs : List ℕ) → xs ++ [] ≡ xs
    append_nil [] = refl
    append_nil (x ∷ xs) = ap (λ ys. x ∷ ys) (append_nil xs)
run_of s (b ∷ bs) mid agree =
    let rest = run_of agree.0 bs mid agree.4 in
    record {
      text = agree.1 ++ rest.text;
      says = (agree.0, agree.1, rest.text, agree.2, rest.says, refl);
      more = λ line next due met. (
        agree.0,
        agree.1,
        rest.text ++ due,
        agree.2,
        rest.more line next due met,
        append_assoc agree.1 rest.text due,
      );
    }

-- what is due to a line after the same blocks is the same
one_due : OneText → (bs : List SeenBlock) (line : ScriptLine) (a b x y : Script) (d e : List ℕ)
    → AgreesFrom empty_script bs a → AgreesFrom empty_script bs b → Met a line x d → Met b line y e
    → d ≡ e
one_due law bs line a b x y d e p q met other =
    let run = run_of empty_script bs a p in
    let run2 = run_of empty_script bs b q in
    let one = law never (lines_of bs) in
    let front : run.text ≡ run2.text =
    (one.one a run.text run.says).1 ∙ sym (one.one b run2.text run2.says).1 in
    let all = law never (lines_of bs ++ line ∷ []) in
    let whole : run.text ++ d ≡ run2.text ++ e =
    (all.one x (run.text ++ d) (run.more line x d met)).1
    ∙ sym (all.one y (run2.text ++ e) (run2.more line y e other)).1 in
    sym (drop-append_seam run.text d)
    ∙ ap (drop (length run.text)) whole
    ∙ ap (λ t. drop (length t) (run2.text ++ e)) front
    ∙ drop-append_seam run2.text e

-- a block among blocks that agree
record IsAmong (s : Script) (before : List SeenBlock) (b : SeenBlock) : Type 0 where
  pub mid : Script
  pub agree : AgreesFrom s before mid
  pub next : Script
  pub due : List ℕ
  pub met : Met mid (script_of b.line) next due
  pub answered : IsAnswered (answers_in due) b.seen

among : (s : Script) (before : List SeenBlock) (b : SeenBlock) (more : List SeenBlock)
    (last : Script) → AgreesFrom s (before ++ b ∷ more) last → IsAmong s before b
among s [] b more last agree = record {
  mid = s;
  agree = refl;
  next = agree.0;
  due = agree.1;
  met = agree.2;
  answered = agree.3;
}
among s (x ∷ before) b more last agree =
    let rest = among agree.0 before b more last agree.4 in
    record {
      mid = rest.mid;
      agree = (agree.0, agree.1, agree.2, agree.3, rest.agree);
      next = rest.next;
      due = rest.due;
      met = rest.met;
      answered = rest.answered;
    }

-- a block that differs is not among blocks that agree
clash : OneText → (bs : List SeenBlock) (at : ℕ) (d : IsFirstDifference empty_script bs at)
    (more : List SeenBlock) (last : Script)
    → AgreesFrom empty_script (d.before ++ d.block ∷ more) last → ⊥
clash law bs at d more last agree =
    let here = among empty_script d.before d.block more last agree in
    let same =
    one_due law d.before (script_of d.block.line) here.mid d.last here.next d.next here.due d.due
    here.agree d.agree here.met d.met in
    d.differs (subst (λ t. IsAnswered (answers_in t) d.block.seen) same here.answered)

take_past : (before : List SeenBlock) (b : SeenBlock) (more : List SeenBlock) (n k : ℕ)
    → n ≡ length before + suc k → take n (before ++ b ∷ more) ≡ before ++ b ∷ take k more
take_past [] b more zero k is = absurd (omega (arith, is))
take_past [] b more (suc n) k is =
    let same : n ≡ k = omega (arith, is) in ap (λ m. b ∷ take m more) same
take_past (x ∷ before) b more zero k is = absurd (omega (arith, is))
take_past (x ∷ before) b more (suc n) k is =
    ap (λ ys. x ∷ ys) (take_past before b more n k (omega (arith, is)))

take_front : (front more : List SeenBlock) → take (length front) (front ++ more) ≡ front
take_front [] more = refl
take_front (x ∷ front) more = ap (λ ys. x ∷ ys) (take_front front more)

-- nothing differs before the first difference
later : OneText → (bs : List SeenBlock) (a b : ℕ) → IsFirstDifference empty_script bs a
    → IsFirstDifference empty_script bs b → a < b → ⊥
later law bs a b d e lt =
    clash law bs a d (take (b - suc a) d.more) e.last
    (subst (λ ys. AgreesFrom empty_script ys e.last) same e.agree)
  where
    count : length e.before ≡ length d.before + suc (b - suc a)
    count = omega (arith, d.count, e.count, lt)

    same : e.before ≡ d.before ++ d.block ∷ take (b - suc a) d.more
    same =
        sym (take_front e.before (e.block ∷ e.more))
        ∙ ap (take (length e.before)) (sym e.parts ∙ d.parts)
        ∙ take_past d.before d.block d.more (length e.before) (b - suc a) count

whole : OneText → (bs : List SeenBlock) (at : ℕ) (last : Script) → AgreesFrom empty_script bs last
    → IsFirstDifference empty_script bs at → ⊥
whole law bs at last agree d =
    clash law bs at d d.more last (subst (λ ys. AgreesFrom empty_script ys last) d.parts agree)

by_order : (a b : ℕ) → (a < b → ⊥) → (b < a → ⊥) → a ≡ b
by_order zero zero f g = refl
by_order zero (suc b) f g = absurd (f (omega arith))
by_order (suc a) zero f g = absurd (g (omega arith))
by_order (suc a) (suc b) f g =
    ap suc (by_order a b (λ lt. f (omega (arith, lt))) (λ lt. g (omega (arith, lt))))

pub one_finding : OneText → (bs : List SeenBlock) (f g : Found) → Finds f empty_script bs
    → Finds g empty_script bs → f ≡ g
one_finding law bs Agrees Agrees p q = refl
one_finding law bs Agrees (Differs at) p q = absurd (whole law bs at p.0 p.1 q)
one_finding law bs (Differs at) Agrees p q = absurd (whole law bs at q.0 q.1 p)
one_finding law bs (Differs a) (Differs b) p q =
    ap Differs (by_order a b (later law bs a b p q) (later law bs b a q p))
