-- What was written for lines is a text for some lack of memory, and such a text is written for
-- them.
use Rattle.std.proofs.Common.{◌≡◌, ℕ, zero, suc, Bool, true, false, List, [], ◌∷◌, Result, Ok, Err}
use Rattle.std.proofs.Common.{refl}
use Rattle.pt_types.specs.declared.outcome.Refusal.{Refusal}
use Rattle.pt_grammar.specs.declared.script_line.ScriptLine.{ScriptLine}
use Rattle.pt_model.specs.declared.entry.Event.{Event}
use Rattle.pt_engine.specs.declared.line_id.LineId.{LineId}
use Rattle.pt_engine.specs.Scripts.{Script, empty_script, event_of_line, line_id}
use Rattle.pt_engine.specs.LineAnswers.{AnswersLines, AnswersEvent, AnswersRequest, accepts, count_line}
use Rattle.pt_engine.specs.LineAnswers.{lacks, refuses}
use Rattle.pt_script.specs.Laws.{EachText, AnswersLinesIf, AnswersEventIf, AnswersRequestIf}
use Rattle.pt_script.specs.Laws.{accepted, refused, unmet}

-- this flag followed by the others
abbrev flags : Bool → (ℕ → Bool) → ℕ → Bool
flags b wanted zero = b
flags b wanted (suc k) = wanted k

-- whether memory is lacking at an event, read off what was written for it
met_of : (s : Script) (v : Event) (line : LineId) (next : Script) (text : List ℕ)
    → AnswersEvent s v line next text → (b : Bool) × AnswersEventIf b s v line next text
met_of s v line next text (refuses r) = (false, refused r)
met_of s v line next text (lacks r) = (true, unmet refl r)
met_of s v line next text (accepts a) = (false, accepted refl a)

met_to : (s : Script) (line : LineId) (r : Result Event Refusal) (next : Script) (text : List ℕ)
    → AnswersRequest s line r next text → (b : Bool) × AnswersRequestIf b s line r next text
met_to s line (Err why) next text says = (false, says)
met_to s line (Ok v) next text says = met_of s v line next text says

pub met_all : (s : Script) (lines : List ScriptLine) (last : Script) (text : List ℕ)
    → AnswersLines s lines last text → (wanted : ℕ → Bool) × AnswersLinesIf wanted s lines last text
met_all s [] last text says = (λ k. false, says)
met_all s (line ∷ more) last text says =
    let first =
    met_to (count_line s line.who) (line_id s line.who)
    (event_of_line s line) says.0 says.1 says.3 in
    let rest = met_all says.0 more last says.2 says.4 in
    (flags first.0 rest.0, (says.0, says.1, says.2, first.1, rest.1, says.5))

-- the same without whether memory is lacking
said_of : (b : Bool) (s : Script) (v : Event) (line : LineId) (next : Script) (text : List ℕ)
    → AnswersEventIf b s v line next text → AnswersEvent s v line next text
said_of b s v line next text (refused r) = refuses r
said_of b s v line next text (unmet w r) = lacks r
said_of b s v line next text (accepted n a) = accepts a

said_to : (b : Bool) (s : Script) (line : LineId) (r : Result Event Refusal) (next : Script)
    (text : List ℕ) → AnswersRequestIf b s line r next text → AnswersRequest s line r next text
said_to b s line (Err why) next text says = says
said_to b s line (Ok v) next text says = said_of b s v line next text says

pub said_all : (wanted : ℕ → Bool) (s : Script) (lines : List ScriptLine) (last : Script)
    (text : List ℕ) → AnswersLinesIf wanted s lines last text → AnswersLines s lines last text
said_all wanted s [] last text says = says
said_all wanted s (line ∷ more) last text says = (
  says.0,
  says.1,
  says.2,
  said_to (wanted zero) (count_line s line.who) (line_id s line.who) (event_of_line s line) says.0
      says.1 says.3,
  said_all (λ k. wanted (suc k)) says.0 more last says.2 says.4,
  says.5,
)

pub each_text : EachText
each_text lines last text = (
  λ says. met_all empty_script lines last text says,
  λ met. said_all met.0 empty_script lines last text met.1,
)
