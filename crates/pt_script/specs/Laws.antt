-- Laws: which line each answer belongs to, and that there is one text for all lines.
use Rattle.std.specs.Prelude.{◌≡◌, ℕ, zero, suc, ◌↔◌, ◌++◌, Bool, true, false, not, ◌&&◌, List, []}
use Rattle.std.specs.Prelude.{◌∷◌, Some, Result, Ok, Err, map}
use mathlib.Core.List.{IsPrefix}
use Rattle.pt_types.specs.declared.outcome.Refusal.{Refusal}
use Rattle.pt_grammar.specs.declared.script_line.ScriptLine.{ScriptLine}
use Rattle.pt_grammar.specs.Lines.{lines}
use Rattle.pt_grammar.specs.Script.{script_of}
use Rattle.pt_model.specs.declared.entry.Event.{Event}
use Rattle.pt_model.specs.Searches.{Each}
use Rattle.pt_model.specs.Records.{ReplyView}
use Rattle.pt_model.specs.Answers.{replies_since}
use Rattle.pt_legal.specs.Applying.{is_death}
use Rattle.pt_engine.specs.declared.line_id.LineId.{LineId}
use Rattle.pt_engine.specs.Scripts.{Script, empty_script, line_id, event_of_line, line_at}
use Rattle.pt_engine.specs.Scripts.{number_of_who}
use Rattle.pt_engine.specs.Scripts.{refusal_text}
use Rattle.pt_engine.specs.LineAnswers.{AnswersLines, IsRefused, LacksMemory, IsAccepted}
use Rattle.pt_engine.specs.LineAnswers.{count_line}
use Rattle.pt_script.specs.Tellings.{answers}
use Rattle.pt_script.specs.Ends.{BeginsScriptText}

-- the line that made an answer's call is noted, and it is the client's own
pub record HasLine (s : Script) (t : ReplyView) : Type 0 where
  pub line : LineId
  pub noted : line_at s.calls t.place ≡ Some line
  pub own : number_of_who s.clients line.who ≡ Some t.client

-- Lines of answers: each answer of the history that the first lines lead to has its line, even
-- after all lines. So the answers from before a seal have theirs too.
abbrev pub AnswersHaveLines : Type 0
AnswersHaveLines =
    (lines more : List ScriptLine) (s last : Script) (text rest : List ℕ)
    → AnswersLines empty_script lines s text → AnswersLines s more last rest
    → Each (HasLine last) (replies_since s.start s.entries)

-- what is written for an event, given whether memory is lacking: ENOMEM is written only if it is,
-- and then only if there is no other refusal and the event is not a `die`  [profile]
pub data AnswersEventIf (wanted : Bool) (s : Script) (event : Event) (line : LineId) (next : Script)
    (text : List ℕ) : Type 0 where
  refused : IsRefused s event line next text → AnswersEventIf wanted s event line next text
  unmet : wanted ≡ true → LacksMemory s event line next text
      → AnswersEventIf wanted s event line next text
  accepted : (wanted && not (is_death event)) ≡ false → IsAccepted s event line next text
      → AnswersEventIf wanted s event line next text

-- the same for a line that may have a refusal of its own  [profile]
abbrev pub AnswersRequestIf : Bool → Script → LineId → Result Event Refusal → Script → List ℕ
    → Type 0
AnswersRequestIf wanted s line (Err why) next text = (next ≡ s) × (text ≡ refusal_text line why)
AnswersRequestIf wanted s line (Ok event) next text = AnswersEventIf wanted s event line next text

-- what is written for these lines, one after another, if memory is lacking at the lines with these
-- numbers, from 0
abbrev pub AnswersLinesIf : (ℕ → Bool) → Script → List ScriptLine → Script → List ℕ → Type 0
AnswersLinesIf wanted s [] last text = (last ≡ s) × (text ≡ [])
AnswersLinesIf wanted s (line ∷ more) last text =
    (next : Script) × (first : List ℕ) × (rest : List ℕ)
    × AnswersRequestIf (wanted zero) (count_line s line.who) (line_id s line.who)
    (event_of_line s line) next
    first
    × AnswersLinesIf (λ k. wanted (suc k)) next more last rest × (text ≡ first ++ rest)

-- for a choice of the lines at which memory is lacking, these lines lead to exactly one script and
-- one text
pub record IsOneText (wanted : ℕ → Bool) (lines : List ScriptLine) : Type 0 where
  pub last : Script
  pub text : List ℕ
  pub says : AnswersLinesIf wanted empty_script lines last text
  pub one :
      (other : Script) (others : List ℕ) → AnswersLinesIf wanted empty_script lines other others
      → (other ≡ last) × (others ≡ text)

-- One text: a list of lines, and a choice of the lines at which memory is lacking, determine one
-- text.
abbrev pub OneText : Type 0
OneText = (wanted : ℕ → Bool) (lines : List ScriptLine) → IsOneText wanted lines

-- Each text: a text may be written for some lines exactly if it is their text for some choice of
-- the lines at which memory is lacking.
abbrev pub EachText : Type 0
EachText =
    (lines : List ScriptLine) (last : Script) (text : List ℕ)
    → AnswersLines empty_script lines last text
    ↔ ((wanted : ℕ → Bool) × AnswersLinesIf wanted empty_script lines last text)

-- the lines in a script's bytes, as they are read
abbrev pub lines_of : List ℕ → List ScriptLine
lines_of bytes = map script_of (lines bytes)

-- what was written begins the text of all lines of these bytes
pub record BeginsAll (bytes text : List ℕ) : Type 0 where
  pub wanted : ℕ → Bool
  pub last : Script
  pub whole : List ℕ
  pub says : AnswersLinesIf wanted empty_script (lines_of bytes) last whole
  pub begins : IsPrefix text whole

-- Beginnings: what begins the text of the first lines begins the text of all lines.
abbrev pub BeginningsOfAll : Type 0
BeginningsOfAll =
    (bytes text : List ℕ) → BeginsScriptText answers bytes text → BeginsAll bytes text
