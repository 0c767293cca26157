-- Agreements: when the answers that were seen are those that the rules give.
use Rattle.std.specs.Prelude.{◌≡◌, ℕ, ◌==◌, ◌++◌, ◌↔◌, Bool, false, List, [], ◌∷◌, Some, None}
use Rattle.std.specs.Prelude.{IsTrue, count_by, length, map}
use Rattle.pt_grammar.specs.declared.script_line.ScriptLine.{ScriptLine}
use Rattle.pt_grammar.specs.Script.{script_of}
use Rattle.pt_model.specs.Searches.{Each}
use Rattle.pt_engine.specs.Scripts.{Script, event_of_line, line_id}
use Rattle.pt_engine.specs.LineAnswers.{count_line}
use Rattle.pt_script.specs.Laws.{AnswersRequestIf}
use Rattle.pt_traces.specs.Rows.{rows}
use Rattle.pt_traces.specs.Answers.{AnswerText, agrees_with, answer_of}
use Rattle.pt_traces.specs.Blocks.{SeenBlock, first_wrong}
use Rattle.pt_check.specs.declared.fault.CheckFault.{CheckFault}
use Rattle.pt_check.specs.declared.fault.CheckFault.TheVariants.{NotAnswer, Memory}
use Rattle.pt_check.specs.declared.found.Found.{Found}
use Rattle.pt_check.specs.declared.found.Found.TheVariants.{Agrees, Differs}

-- what the rules answer to a line, if memory is never lacking
abbrev pub Met : Script → ScriptLine → Script → List ℕ → Type 0
Met s line next text =
    AnswersRequestIf false (count_line s line.who) (line_id s line.who)
    (event_of_line s line) next text

-- the answers in a text, each in a row
abbrev pub answers_in : List ℕ → List AnswerText
answers_in text = map answer_of (rows text)

-- the answers that were seen are those that are due, in any order: there are as many, and exactly
-- one agrees with each
pub record IsAnswered (due seen : List AnswerText) : Type 0 where
  pub many : length seen ≡ length due
  pub each : Each (λ d. count_by (agrees_with d) seen ≡ 1) due

-- whether exactly one of the answers that were seen agrees with one that is due
abbrev pub is_seen_once : List AnswerText → AnswerText → Bool
is_seen_once seen due = count_by (agrees_with due) seen == 1

-- a line was answered, and whether the answers in its block are those that are due
pub record Compares (s : Script) (b : SeenBlock) (next : Script) (same : Bool) : Type 0 where
  pub due : List ℕ
  pub met : Met s (script_of b.line) next due
  pub is_same : IsTrue same ↔ IsAnswered (answers_in due) b.seen

-- the answers in these blocks agree with the rules, one block after another
abbrev pub AgreesFrom : Script → List SeenBlock → Script → Type 0
AgreesFrom s [] last = last ≡ s
AgreesFrom s (b ∷ more) last =
    (next : Script) × (due : List ℕ) × Met s (script_of b.line) next due
    × IsAnswered (answers_in due) b.seen × AgreesFrom next more last

-- the blocks before this one agree with the rules, and it does not; blocks are counted from 0
pub record IsFirstDifference (s : Script) (blocks : List SeenBlock) (at : ℕ) : Type 0 where
  pub before : List SeenBlock
  pub block : SeenBlock
  pub more : List SeenBlock
  pub parts : blocks ≡ before ++ block ∷ more
  pub count : length before ≡ at
  pub last : Script
  pub agree : AgreesFrom s before last
  pub next : Script
  pub due : List ℕ
  pub met : Met last (script_of block.line) next due
  pub differs : IsAnswered (answers_in due) block.seen → ⊥

-- what is found of a trace's blocks
abbrev pub Finds : Found → Script → List SeenBlock → Type 0
Finds Agrees s blocks = (last : Script) × AgreesFrom s blocks last
Finds (Differs at) s blocks = IsFirstDifference s blocks at

-- when each fault comes: a row is no answer; or each that should be one is, and memory lacked
abbrev pub IsFaultOf : List ℕ → CheckFault → Type 0
IsFaultOf trace (NotAnswer row) = first_wrong false 1 (rows trace) ≡ Some row
IsFaultOf trace Memory = first_wrong false 1 (rows trace) ≡ None
