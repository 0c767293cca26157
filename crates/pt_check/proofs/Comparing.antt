-- Comparing: blocks that were compared, one after another.
use Rattle.std.proofs.Common.{◌≡◌, ◌∙◌, ◌+◌, ◌<◌, ◌^◌, ◌++◌, ◌↔◌, ℕ, Bool, true, false}
use Rattle.std.proofs.Common.{List, []}
use Rattle.std.proofs.Common.{◌∷◌, IsTrue, length, refl, sym, ap, subst, append_assoc, append-nil}
use Rattle.std.proofs.Common.{length-append, arith, Result, Ok, Err}
use Rattle.pt_grammar.specs.declared.cut.Cut.{Cut}
use Rattle.pt_grammar.specs.Script.{script_of}
use Rattle.pt_grammar.specs.declared.script_line.ScriptLine.{ScriptLine}
use Rattle.pt_types.specs.declared.outcome.Refusal.{Refusal}
use Rattle.pt_model.specs.declared.entry.Event.{Event}
use Rattle.pt_engine.specs.declared.line_id.LineId.{LineId}
use Rattle.pt_engine.specs.Scripts.{Script, empty_script, line_id, event_of_line}
use Rattle.pt_engine.specs.LineAnswers.{AnswersLine, AnswersEvent, AnswersRequest, count_line, refuses}
use Rattle.pt_engine.specs.LineAnswers.{accepts}
use Rattle.pt_engine.proofs.Runs.{says_seen}
use Rattle.pt_script.specs.Laws.{AnswersRequestIf, AnswersEventIf, refused, unmet, accepted}
use Rattle.pt_traces.specs.Rows.{rows}
use Rattle.pt_traces.specs.Blocks.{SeenBlock, blocks}
use Rattle.pt_traces.proofs.RowLemmas.{rows-few}
use Rattle.pt_traces.proofs.BlockLemmas.{blocks-few}
use Rattle.pt_check.specs.Agreements.{AgreesFrom, Compares, IsAnswered, IsFirstDifference, Met}
use Rattle.pt_check.specs.Agreements.{answers_in}

-- the blocks before the next agree, and there are so many of them
pub record AreCompared (s : Script) (all left : List SeenBlock) (at : ℕ)
    (known : Script) : Type 0 where
  pub done : List SeenBlock
  pub parts : all ≡ done ++ left
  pub count : length done ≡ at
  pub agree : AgreesFrom s done known

pub compared_none : (s : Script) (all : List SeenBlock) (known : Script) → known ≡ s
    → AreCompared s all all 0 known
compared_none s all known same = record { done = []; parts = refl; count = refl; agree = same }

-- what the rules answer without lack of memory may be written
met_of : (s : Script) (v : Event) (line : LineId) (next : Script) (text : List ℕ)
    → AnswersEventIf false s v line next text → AnswersEvent s v line next text
met_of s v line next text (refused r) = refuses r
met_of s v line next text (unmet is u) = absurd (let same = is in cc)
met_of s v line next text (accepted n a) = accepts a

met_to : (s : Script) (line : LineId) (r : Result Event Refusal) (next : Script) (text : List ℕ)
    → AnswersRequestIf false s line r next text → AnswersRequest s line r next text
met_to s line (Err why) next text met = met
met_to s line (Ok v) next text met = met_of s v line next text met

pub met_says : (s : Script) (line : ScriptLine) (next : Script) (text : List ℕ)
    → Met s line next text → AnswersLine s line next text
met_says s line next text met =
    met_to (count_line s line.who) (line_id s line.who) (event_of_line s line) next text met

-- as many more lines were seen as there are blocks
agrees_seen : (s : Script) (bs : List SeenBlock) (last : Script) → AgreesFrom s bs last
    → length last.seen ≡ length s.seen + length bs
agrees_seen s [] last agree = ap (λ n. length n.seen) agree ∙ omega arith
agrees_seen s (b ∷ bs) last agree =
    let one =
    says_seen s (script_of b.line) agree.0 agree.1
    (met_says s (script_of b.line) agree.0 agree.1 agree.2) in
    let rest = agrees_seen agree.0 bs last agree.4 in
    omega (arith, one, rest)

-- one more block that agrees
agrees_more : (s : Script) (bs : List SeenBlock) (mid : Script) (b : SeenBlock) (last : Script)
    (due : List ℕ) → AgreesFrom s bs mid → Met mid (script_of b.line) last due
    → IsAnswered (answers_in due) b.seen → AgreesFrom s (bs ++ b ∷ []) last
agrees_more s [] mid b last due agree met same =
    subst (λ m. AgreesFrom m (b ∷ []) last) agree (last, due, met, same, refl)
agrees_more s (x ∷ bs) mid b last due agree met same = (
  agree.0,
  agree.1,
  agree.2,
  agree.3,
  agrees_more agree.0 bs mid b last due agree.4 met same,
)

pub compared_few : (all left : List SeenBlock) (at : ℕ) (known : Script) (b : SeenBlock)
    (more : List SeenBlock) → length all < 2 ^ 53 → AreCompared empty_script all left at known
    → left ≡ b ∷ more → (length known.seen ≡ at) × (at < length all)
compared_few all left at known b more few compared is =
    let seen = agrees_seen empty_script compared.done known compared.agree in
    let parts = ap length compared.parts ∙ length-append compared.done left in
    let some = ap length is in
    (omega (arith, seen, compared.count), omega (arith, parts, some, compared.count))

pub compared_more : (s : Script) (all left : List SeenBlock) (at : ℕ) (known : Script)
    (b : SeenBlock) (more : List SeenBlock) (next : Script) (same : Bool)
    → AreCompared s all left at known → left ≡ b ∷ more → Compares known b next same
    → same ≡ true → AreCompared s all more (at + 1) next
compared_more s all left at known b more next same compared is one so = record {
  done = compared.done ++ b ∷ [];
  parts =
      compared.parts ∙ ap (λ bs. compared.done ++ bs) is
      ∙ sym (append_assoc compared.done (b ∷ []) more);
  count = length-append compared.done (b ∷ []) ∙ omega (arith, compared.count);
  agree =
      agrees_more s compared.done known b next one.due compared.agree one.met (one.is_same.0 so);
}

pub compared_all : (s : Script) (all left : List SeenBlock) (at : ℕ) (known : Script)
    → AreCompared s all left at known → left ≡ [] → AgreesFrom s all known
compared_all s all left at known compared is =
    subst (λ bs. AgreesFrom s bs known)
    (sym (compared.parts ∙ ap (λ bs. compared.done ++ bs) is ∙ append-nil compared.done))
    compared.agree

pub compared_until : (s : Script) (all left : List SeenBlock) (at : ℕ) (known : Script)
    (b : SeenBlock) (more : List SeenBlock) (next : Script) (same : Bool)
    → AreCompared s all left at known → left ≡ b ∷ more → Compares known b next same
    → same ≡ false → IsFirstDifference s all at
compared_until s all left at known b more next same compared is one so = record {
  before = compared.done;
  block = b;
  more = more;
  parts = compared.parts ∙ ap (λ bs. compared.done ++ bs) is;
  count = compared.count;
  last = known;
  agree = compared.agree;
  next = next;
  due = one.due;
  met = one.met;
  differs = λ answered. (let both = sym (one.is_same.1 answered) ∙ so in cc);
}

-- a line that was answered, and a block that was compared with its answers
pub compares : (s : Script) (b : SeenBlock) (line : Cut) (next : Script) (due shown : List ℕ)
    (same : Bool) → line ≡ b.line → Met s (script_of line) next due → shown ≡ due
    → (IsTrue same ↔ IsAnswered (answers_in shown) b.seen) → Compares s b next same
compares s b line next due shown same is met text found = record {
  due = due;
  met = subst (λ l. Met s (script_of l) next due) is met;
  is_same = subst (λ t. IsTrue same ↔ IsAnswered (answers_in t) b.seen) text found;
}

-- there are fewer blocks than a trace has bytes
pub few_blocks : (trace : List ℕ) (bs : List SeenBlock) (most : ℕ) → bs ≡ blocks (rows trace)
    → length trace < most → length bs < most
few_blocks trace bs most is few =
    let same = ap length is in
    omega (arith, same, blocks-few (rows trace), rows-few trace)
