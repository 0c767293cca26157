-- LineAnswers: what is written for each line of a script, and for all of them.
use Rattle.std.specs.Prelude.{◌≡◌, ℕ, ◌++◌, false, List, [], ◌∷◌, Option, Some, None, Result, Ok}
use Rattle.std.specs.Prelude.{Err}
use Rattle.pt_types.specs.declared.outcome.Refusal.{Refusal}
use Rattle.pt_types.specs.declared.outcome.Refusal.TheVariants.{Enomem}
use Rattle.pt_grammar.specs.declared.client.Who.{Who}
use Rattle.pt_grammar.specs.declared.script_line.ScriptLine.{ScriptLine}
use Rattle.pt_model.specs.declared.entry.Entry.{Entry}
use Rattle.pt_model.specs.declared.entry.Event.{Event}
use Rattle.pt_model.specs.Histories.{place}
use Rattle.pt_model.specs.Answers.{replies_from}
use Rattle.pt_model.specs.Room.{refusal_with_seals}
use Rattle.pt_legal.specs.Cores.{CoreState, history_of}
use Rattle.pt_legal.specs.Applying.{WritesEvent, is_death, core_for_event}
use Rattle.pt_engine.specs.declared.line_id.LineId.{LineId}
use Rattle.pt_engine.specs.Scripts.{Script, core_of, line_id, event_of_line, replies_text}
use Rattle.pt_engine.specs.Scripts.{refusal_text, clients_with, calls_with, greeting}
use Rattle.pt_engine.specs.Scripts.{entries_between_seals}

-- the core to which an accepted event's entries are added: its history is sealed first, if the
-- event needs that room  [profile]
abbrev pub core_for_line : Script → Event → CoreState
core_for_line s event = core_for_event (core_of s) event

-- why a line's event is refused, or none; the line may already have a refusal of its own  [profile]
abbrev pub refusal_of_event : Script → Event → Option Refusal
refusal_of_event s event = refusal_with_seals entries_between_seals (history_of (core_of s)) event

-- one more line was seen, and nothing else has come of it yet
abbrev pub count_line : Script → Who → Script
count_line s who = record s { seen = s.seen ++ who ∷ [] }

-- the event is refused: its refusal is written, and it leaves no entry  [profile]
pub record IsRefused (s : Script) (event : Event) (line : LineId) (next : Script)
    (text : List ℕ) : Type 0 where
  pub why : Refusal
  pub refused : refusal_of_event s event ≡ Some why
  pub same : next ≡ s
  pub written : text ≡ refusal_text line why

-- a growth was refused: ENOMEM is written if there is no other refusal, and never for a `die`
-- [profile]
pub record LacksMemory (s : Script) (event : Event) (line : LineId) (next : Script)
    (text : List ℕ) : Type 0 where
  pub accepted : refusal_of_event s event ≡ None
  pub lives : is_death event ≡ false
  pub same : next ≡ s
  pub written : text ≡ refusal_text line Enomem

-- the event is accepted: its entries are added to the history, or to its seal, and their answers
-- are written
pub record IsAccepted (s : Script) (event : Event) (line : LineId) (next : Script)
    (text : List ℕ) : Type 0 where
  pub accepted : refusal_of_event s event ≡ None
  pub writes : WritesEvent (core_for_line s event) event (core_of next)
  pub added : List Entry
  pub extends : next.entries ≡ (core_for_line s event).entries ++ added
  pub seen : next.seen ≡ s.seen
  pub clients : next.clients ≡ clients_with event line.who (place (history_of
      (core_of s))) s.clients
  pub calls : next.calls ≡ calls_with event line (place (history_of (core_of s))) s.calls
  pub written :
      text
      ≡ greeting event line
      ++ replies_text next.calls (replies_from (history_of (core_for_line s event)) added)

-- what may be written for the event that a line asks for
pub data AnswersEvent (s : Script) (event : Event) (line : LineId) (next : Script)
    (text : List ℕ) : Type 0 where
  refuses : IsRefused s event line next text → AnswersEvent s event line next text
  lacks : LacksMemory s event line next text → AnswersEvent s event line next text
  accepts : IsAccepted s event line next text → AnswersEvent s event line next text

-- the same for a line that may ask for no event: if so, its own refusal is written and it leaves no
-- entry  [profile]
abbrev pub AnswersRequest : Script → LineId → Result Event Refusal → Script → List ℕ → Type 0
AnswersRequest s line (Err why) next text = (next ≡ s) × (text ≡ refusal_text line why)
AnswersRequest s line (Ok event) next text = AnswersEvent s event line next text

-- what may be written for a line: the line is counted, and then what it asks for is done
abbrev pub AnswersLine : Script → ScriptLine → Script → List ℕ → Type 0
AnswersLine s line next text =
    AnswersRequest (count_line s line.who) (line_id s line.who) (event_of_line s line) next text

-- what may be written for these lines, one after another
abbrev pub AnswersLines : Script → List ScriptLine → Script → List ℕ → Type 0
AnswersLines s [] last text = (last ≡ s) × (text ≡ [])
AnswersLines s (line ∷ more) last text =
    (next : Script) × (first : List ℕ) × (rest : List ℕ)
    × AnswersLine s line next first × AnswersLines next more last rest × (text ≡ first ++ rest)
