-- What is written for a line explains it.
use Rattle.std.proofs.Common.{◌≡◌, ◌≤◌, ◌<◌, ◌+◌, ◌-◌, ◌∙◌, ◌++◌, ◌∷◌, [], ℕ, List, Bool}
use Rattle.std.proofs.Common.{true, false, Result, Ok, Err, cond, refl, ap, sym, subst, drop}
use Rattle.std.proofs.Common.{append_assoc, length, length-append, OnOk, arith}
use Rattle.pt_grammar.specs.declared.cut.Cut.{Cut}
use Rattle.pt_grammar.specs.Script.{script_of}
use Rattle.pt_grammar.specs.declared.script_line.ScriptLine.{ScriptLine}
use Rattle.pt_types.specs.declared.outcome.Refusal.{Refusal}
use Rattle.pt_model.specs.declared.entry.Entry.{Entry}
use Rattle.pt_model.specs.declared.entry.Event.{Event}
use Rattle.pt_model.specs.Histories.{place}
use Rattle.pt_model.specs.Starts.{Start}
use Rattle.pt_model.specs.Room.{entry_for, needs_seal}
use Rattle.pt_model.proofs.Histories.{place-history_since}
use Rattle.pt_legal.specs.Cores.{CoreState, history_of}
use Rattle.pt_legal.specs.Applying.{WritesEvent, core_for_event}
use Rattle.pt_legal.specs.Sealing.{core_after_seal}
use Rattle.pt_engine.specs.declared.line_id.LineId.{LineId}
use Rattle.pt_engine.specs.Scripts.{Script, core_of, line_id, event_of_line}
use Rattle.pt_engine.specs.LineAnswers.{AnswersEvent, AnswersRequest, AnswersLine, count_line}
use Rattle.pt_engine.specs.LineAnswers.AnswersEvent.{refuses, lacks, accepts}
use Rattle.pt_engine.specs.Engines.{Appends}
use Rattle.pt_explain.specs.Entries.{entry_row, entry_rows, refused_row}
use Rattle.pt_explain.specs.ObjectRows.{object_rows}
use Rattle.pt_explain.specs.Explanations.{Explains, echo, effect_rows, entries_since, next_place}
use Rattle.pt_explain.specs.Explanations.{own_reason, quoted, refused_reason, rows_from}
use Rattle.pt_explain.proofs.EntryLines.{refused_not}

-- a history's Start is not past the place of its next entry
pub start_within : (s : Script) → s.start.at ≤ next_place s
start_within s = omega (arith, place-history_since s.start s.entries)

-- nor is that of a core that was sealed for an event
opened_within : (k : CoreState) (event : Event) → k.start.at ≤ place (history_of k)
    → (core_for_event k event).start.at ≤ place (history_of k)
opened_within k event le = go (needs_seal k.limit (history_of k) event)
  where
    go : (b : Bool) → (cond b (core_after_seal k) k).start.at ≤ place (history_of k)
    go true = omega arith
    go false = le

of_event :
    (s : Script) (event : Event) (line : LineId) (next : Script) (text : List ℕ)
    → AnswersEvent s event line next text → next.start.at ≤ next_place s
of_event s event line next text (refuses r) =
    subst (λ (t : Script). t.start.at ≤ next_place s) (sym r.same) (start_within s)
of_event s event line next text (lacks u) =
    subst (λ (t : Script). t.start.at ≤ next_place s) (sym u.same) (start_within s)
of_event s event line next text (accepts a) =
    subst (λ (t : Start). t.at ≤ next_place s) (sym a.writes.starts)
    (opened_within (core_of s) event (start_within s))

to_line :
    (s : Script) (line : LineId) (asked : Result Event Refusal) (next : Script) (text : List ℕ)
    → AnswersRequest s line asked next text → next.start.at ≤ next_place s
to_line s line (Ok event) next text says = of_event s event line next text says
to_line s line (Err why) next text says =
    subst (λ (t : Script). t.start.at ≤ next_place s) (sym says.0) (start_within s)

-- after a line, the history's Start is not past the place of the entry that came next before it
pub start_before :
    (s : Script) (line : ScriptLine) (next : Script) (text : List ℕ)
    → AnswersLine s line next text → next.start.at ≤ next_place s
start_before s line next text says =
    to_line (count_line s line.who) (line_id s line.who) (event_of_line s line) next text says

-- what follows from what is known of an Ok
pub on_ok : {T E : Type 0} {P Q : Type 0} (r : Result T E) → OnOk r P → (P → Q) → OnOk r Q
on_ok (Ok x) p f = f p
on_ok (Err e) p f = tt

-- a line's echo, its rows, its answers, its objects and a newline, appended one after another,
-- explain it
explained_by :
    (s : Script) (cut : Cut) (line : ScriptLine) (next : Script)
    (old o1 o2 o3 o4 o5 rows answers said : List ℕ) → line ≡ script_of cut
    → rows ≡ rows_from s (event_of_line s (script_of cut)) next (next_place s)
    → answers ≡ said → AnswersLine s line next said → o1 ≡ old ++ echo cut
    → o2 ≡ o1 ++ rows → o3 ≡ o2 ++ quoted true answers
    → o4 ≡ o3 ++ object_rows (core_of next) next.clients (next_place s) → o5 ≡ o4 ++ 10 ∷ []
    → Appends (Explains s cut next) old o5
explained_by s cut line next old o1 o2 o3 o4 o5 rows answers said read same is says e1 e2 e3 e4
    e5 =
    let all = rows_from s (event_of_line s (script_of cut)) next (next_place s) in
    let quotes = quoted true said in
    let objects = object_rows (core_of next) next.clients (next_place s) in
    let f2 : o2 ≡ o1 ++ all = e2 ∙ ap (λ r. o1 ++ r) same in
    let f3 : o3 ≡ o2 ++ quotes = e3 ∙ ap (λ a. o2 ++ quoted true a) is in
    record {
      text = echo cut ++ all ++ quotes ++ objects ++ 10 ∷ [];
      grows =
          e5
          ∙ ap (λ o. o ++ 10 ∷ [])
          (e4
          ∙ ap (λ o. o ++ objects) (f3 ∙ ap (λ o. o ++ quotes) (f2 ∙ ap (λ o. o ++ all) e1)))
          ∙ joined old (echo cut) all quotes objects (10 ∷ []);
      holds = record {
        answers = said;
        says = subst (λ l. AnswersLine s l next said) read says;
        written = refl;
      };
    }
  where
    joined : (o a b c d e : List ℕ)
        → ((((o ++ a) ++ b) ++ c) ++ d) ++ e ≡ o ++ ((((a ++ b) ++ c) ++ d) ++ e)
    joined o a b c d e = simp append_assoc

-- the place of the next entry, in a core that may be sealed for an event
opened_place : (k : CoreState) (event : Event)
    → place (history_of k) ≡ (core_for_event k event).start.at + length
    (core_for_event k event).entries
opened_place k event = go (needs_seal k.limit (history_of k) event)
  where
    go : (b : Bool)
        → place (history_of k) ≡ (cond b (core_after_seal k) k).start.at + length (cond b
        (core_after_seal k) k).entries
    go true = omega arith
    go false = place-history_since k.start k.entries

-- an accepted event added an entry
entry_within : (at start : ℕ) (old : List Entry) (e : Entry) (more new : List Entry)
    → at ≡ start + length old → new ≡ old ++ e ∷ more → at - start < length new
entry_within at start old e more new place is =
    let long = ap length is ∙ length-append old (e ∷ more) in
    omega (arith, place, long)

-- so the reason of a refusal doesn't matter
of_accepted :
    (k : CoreState) (event : Event) (new : CoreState) (r q : List ℕ × List ℕ)
    → WritesEvent (core_for_event k event) event new
    → refused_row r (drop (place (history_of k) - new.start.at) new.entries)
    ≡ refused_row q (drop (place (history_of k) - new.start.at) new.entries)
of_accepted k event new r q writes =
    let within =
    entry_within (place (history_of k)) new.start.at (core_for_event k event).entries
    (entry_for (history_of (core_for_event k event)) event) writes.extends.0 new.entries
    (opened_place k event
    ∙ ap (λ (t : Start). t.at + length (core_for_event k event).entries) (sym writes.starts))
    writes.extends.1 in
    refused_not r new.entries (place (history_of k) - new.start.at) within
    ∙ sym (refused_not q new.entries (place (history_of k) - new.start.at) within)

event_refusal :
    (s : Script) (event : Event) (line : LineId) (next : Script) (text : List ℕ)
    → AnswersEvent s event line next text
    → refused_row (refused_reason next (Ok event)) (entries_since next (next_place s))
    ≡ refused_row (refused_reason s (Ok event)) (entries_since next (next_place s))
event_refusal s event line next text (refuses r) =
    ap (λ n. refused_row (refused_reason n (Ok event)) (entries_since next (next_place s))) r.same
event_refusal s event line next text (lacks u) =
    ap (λ n. refused_row (refused_reason n (Ok event)) (entries_since next (next_place s))) u.same
event_refusal s event line next text (accepts a) =
    of_accepted (core_of s) event (core_of next) (refused_reason next (Ok event))
    (refused_reason s (Ok event)) a.writes

line_refusal :
    (s : Script) (line : LineId) (asked : Result Event Refusal) (next : Script) (text : List ℕ)
    → AnswersRequest s line asked next text
    → refused_row (refused_reason next asked) (entries_since next (next_place s))
    ≡ refused_row (refused_reason s asked) (entries_since next (next_place s))
line_refusal s line (Ok event) next text says = event_refusal s event line next text says
line_refusal s line (Err why) next text says = refl

-- a refused line is refused for the same reason before and after it
refusal_same :
    (s : Script) (line : ScriptLine) (next : Script) (text : List ℕ) → AnswersLine s line next text
    → refused_row (refused_reason next (event_of_line s line)) (entries_since next (next_place s))
    ≡ refused_row (refused_reason s (event_of_line s line)) (entries_since next (next_place s))
refusal_same s line next text says =
    line_refusal (count_line s line.who) (line_id s line.who) (event_of_line s line) next text says

-- the rows of what came of a line are those of what it asked for
pub effects_told :
    (s : Script) (line : ScriptLine) (next : Script) (text : List ℕ) (asked : Result Event Refusal)
    (at : ℕ) (old new : List ℕ) (own : List ℕ × List ℕ) → AnswersLine s line next text
    → asked ≡ event_of_line s line → at ≡ next_place s → own ≡ own_reason s asked
    → new ≡ old ++ effect_rows (refused_reason next asked) own next at
    → new ≡ old ++ rows_from s asked next at
effects_told s line next text asked at old new own says event same eo added =
    added
    ∙ ap (λ r. old ++ effect_rows (refused_reason next asked) r next at) eo
    ∙ ap (λ r. old ++ (r ++ entry_rows (entry_row (own_reason s asked) at (core_of next)) at
    (entries_since next at))) refusal
  where
    refusal : refused_row (refused_reason next asked) (entries_since next at)
        ≡ refused_row (refused_reason s asked) (entries_since next at)
    refusal = rw (event, same) (refusal_same s line next text says)

-- a line's echo, its rows, its answers, its objects and a newline, appended one after another,
-- explain it
pub explained :
    (s : Script) (cut : Cut) (line : ScriptLine) (next : Script) (asked : Result Event Refusal)
    (old o1 o2 o3 o4 o5 answers said : List ℕ) (at : ℕ) → line ≡ script_of cut
    → at ≡ next_place s → asked ≡ event_of_line s (script_of cut)
    → answers ≡ said → AnswersLine s line next said → o1 ≡ old ++ echo cut
    → o2 ≡ o1 ++ rows_from s asked next at → o3 ≡ o2 ++ quoted true answers
    → o4 ≡ o3 ++ object_rows (core_of next) next.clients at → o5 ≡ o4 ++ 10 ∷ []
    → Appends (Explains s cut next) old o5
explained s cut line next asked old o1 o2 o3 o4 o5 answers said at read same event is says e1 e2 e3
    e4 e5 =
    explained_by s cut line next old o1 o2 o3 o4 o5 (rows_from s asked next at) answers said read
    (ap (λ a. rows_from s a next at) event
    ∙ ap (λ n. rows_from s (event_of_line s (script_of cut)) next n) same)
    is says e1 e2 e3 (e4 ∙ ap (λ n. o3 ++ object_rows (core_of next) next.clients n) same) e5
