-- Explanations: what explains a line of a script, and all of them.
use Rattle.std.specs.Prelude.{◌≡◌, ℕ, ◌-◌, ◌==◌, ◌||◌, ◌++◌, Bool, true, false, List, [], ◌∷◌}
use Rattle.std.specs.Prelude.{Result, Ok, Err, codes, drop, length, slice_index, unwrap_or}
use Rattle.std.specs.Prelude.{if◌then◌else◌}
use Rattle.pt_grammar.specs.declared.cut.Cut.{Cut}
use Rattle.pt_grammar.specs.declared.cut.Cut.TheVariants.{Line, Long}
use Rattle.pt_grammar.specs.Script.{script_of}
use Rattle.pt_model.specs.Histories.{place}
use Rattle.pt_model.specs.declared.entry.Entry.{Entry}
use Rattle.pt_model.specs.declared.entry.Event.{Event}
use Rattle.pt_types.specs.declared.outcome.Refusal.{Refusal}
use Rattle.pt_types.specs.declared.outcome.Refusal.TheVariants.{Enomem}
use Rattle.pt_legal.specs.Cores.{history_of}
use Rattle.pt_engine.specs.Scripts.{Script, core_of, event_of_line}
use Rattle.pt_engine.specs.LineAnswers.{AnswersLine, refusal_of_event}
use Rattle.pt_script.specs.Tellings.{Telling}
use Rattle.pt_rules.specs.EventRules.{event_reason, refusal_reason}
use Rattle.pt_explain.specs.Entries.{entry_row, entry_rows, refused_row}
use Rattle.pt_explain.specs.ObjectRows.{object_rows}

-- answers as a trace has them, each after `> `; the flag says whether a line begins here
-- [profile]
abbrev pub quoted : (begins : Bool) → List ℕ → List ℕ
quoted begins [] = []
quoted true (b ∷ bytes) = codes "> " ++ b ∷ quoted (b == 10) bytes
quoted false (b ∷ bytes) = b ∷ quoted (b == 10) bytes

-- whether another row of a trace than a line of a script can begin with this byte: a space, `#`,
-- `<` or `>`  [profile]
abbrev pub begins_row : ℕ → Bool
begins_row b = (b == 32) || (b == 35) || (b == 60) || (b == 62)

-- what marks a line of a script that is empty, or that begins as another row of a trace  [profile]
abbrev pub mark : List ℕ → List ℕ
mark text =
    if (length text == 0) || begins_row (slice_index text 0) then codes "< " else []

-- a line of a script as a trace has it, after its mark; `<` alone if it was too long  [profile]
abbrev pub echo : Cut → List ℕ
echo (Line text) = mark text.items ++ text.items ++ 10 ∷ []
echo Long = codes "<" ++ 10 ∷ []

-- the place of the next entry after these lines
abbrev pub next_place : Script → ℕ
next_place s = place (history_of (core_of s))

-- the entries of a script from a place on
abbrev pub entries_since : Script → ℕ → List Entry
entries_since s at = drop (at - s.start.at) s.entries

-- why the own entry of a line's event is added, or why the line asks for no event
abbrev pub own_reason : Script → Result Event Refusal → List ℕ × List ℕ
own_reason s (Err why) = refusal_reason why
own_reason s (Ok event) = event_reason (history_of (core_of s)) event

-- why a line is refused, if it is: ENOMEM if nothing else refuses its event
abbrev pub refused_reason : Script → Result Event Refusal → List ℕ × List ℕ
refused_reason s (Err why) = refusal_reason why
refused_reason s (Ok event) = refusal_reason (unwrap_or (refusal_of_event s event) Enomem)

-- the rows of what came of a line: the entries from this place on, each with its place and why it
-- was added, the first for the event's own reason; or the refusal, if there are none
abbrev pub effect_rows : (refused own : List ℕ × List ℕ) → Script → ℕ → List ℕ
effect_rows refused own next at =
    refused_row refused (entries_since next at)
    ++ entry_rows (entry_row own at (core_of next)) at (entries_since next at)

-- the rows of what a line asked for: the entries from this place on, each with its place and why it
-- was added, or why the line was refused
abbrev pub rows_from : Script → Result Event Refusal → Script → ℕ → List ℕ
rows_from s request next at = effect_rows (refused_reason s request) (own_reason s request) next at

-- what explains a line: the line, the entries that it added to the history, each with its place and
-- why it was added, or why the line was refused, the answers that a script writes for it, what the
-- objects that its call names are doing after it, and an empty line
pub record Explains (s : Script) (cut : Cut) (next : Script) (text : List ℕ) : Type 0 where
  pub answers : List ℕ
  pub says : AnswersLine s (script_of cut) next answers
  pub written :
      text
      ≡ echo cut ++ rows_from s (event_of_line s (script_of cut)) next (next_place s)
      ++ quoted true answers ++ object_rows (core_of next) next.clients (next_place s) ++ 10 ∷ []

-- what explains lines, one after another
abbrev pub explains : Telling
explains s [] last text = (last ≡ s) × (text ≡ [])
explains s (cut ∷ more) last text =
    (next : Script) × (first : List ℕ) × (rest : List ℕ)
    × Explains s cut next first × explains next more last rest × (text ≡ first ++ rest)
