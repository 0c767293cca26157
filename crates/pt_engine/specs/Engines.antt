-- Engines: what the parts of the engine do, one line at a time.
use Rattle.std.specs.Prelude.{◌≡◌, ℕ, ◌≤◌, ◌++◌, List, [], ◌∷◌, map, nat_eq, Option, Some, None}
use Rattle.std.specs.Prelude.{if◌then◌else◌}
use Rattle.std.specs.List.{flat_map}
use Rattle.std.specs.Map.{lookup}
use Rattle.pt_types.specs.declared.outcome.Outcome.{Outcome}
use Rattle.pt_types.specs.declared.outcome.Outcome.TheVariants.{Done}
use Rattle.pt_grammar.specs.declared.client.Who.{Who}
use Rattle.pt_grammar.specs.declared.cut.Cut.{Cut}
use Rattle.pt_lines.specs.declared.reply.Word.TheVariants as word
use Rattle.pt_lines.specs.Replies.{reply_line}
use Rattle.pt_grammar.specs.Lines.{CutterView, lines_to_come}
use Rattle.pt_grammar.specs.Script.{script_of}
use Rattle.pt_model.specs.declared.entry.Event.{Event}
use Rattle.pt_model.specs.declared.entry.Event.TheVariants as event
use Rattle.pt_model.specs.Histories.{History, place}
use Rattle.pt_model.specs.Records.{ReplyView}
use Rattle.pt_model.specs.declared.waiting_call.WaitingCall.{WaitingCall}
use Rattle.pt_model.specs.Searches.{In}
use Rattle.pt_model.specs.Answers.{open_calls}
use Rattle.pt_model.specs.Legal.{LegalSince, events_of}
use Rattle.pt_model.specs.Steps.{IsStart}
use Rattle.pt_legal.specs.Cores.{CoreState, CoreView, core_state}
use Rattle.pt_engine.specs.declared.line_id.LineId.{LineId}
use Rattle.pt_engine.specs.declared.mark.Mark.{Mark}
use Rattle.pt_engine.specs.declared.mark.Mark.TheVariants.{Client, Call, Nothing}
use Rattle.pt_engine.specs.Scripts.{Script, line_at, reply_text, clients_joined}
use Rattle.pt_engine.specs.Scripts.{entries_between_seals}
use Rattle.pt_engine.specs.LineAnswers.{AnswersLines}

-- what contracts see of an engine: its core as contracts see it, which client each line belongs to,
-- the number of each client that has joined under a name, and which line made the call at each
-- place
pub record EngineView : Type 0 where
  pub core : CoreView
  pub seen : List Who
  pub clients : List (List ℕ × ℕ)
  pub calls : List (ℕ × LineId)

-- what an engine knows, as a script
abbrev pub as_script : EngineView → Script
as_script e = record {
  start = (core_state e.core).start;
  entries = e.core.entries;
  seen = e.seen;
  clients = e.clients;
  calls = e.calls;
}

-- a text for which this holds was appended
pub record Appends (Holds : List ℕ → Type 0) (old new : List ℕ) : Type 0 where
  pub text : List ℕ
  pub grows : new ≡ old ++ text
  pub holds : Holds text

-- no call is noted at this place or a later one
abbrev pub IsFresh : List (ℕ × LineId) → ℕ → Type 0
IsFresh calls next = (j : ℕ) → next ≤ j → line_at calls j ≡ None

-- the line that is stored for a client
abbrev pub latest_line : List (ℕ × LineId) → ℕ → Option LineId
latest_line pending c = lookup (nat_eq c) pending

-- what contracts see of the stored lines: those of each client's latest call that had to wait, and
-- how many more fit into the allocated room
pub record PendingLinesView : Type 0 where
  pub entries : List (ℕ × LineId)
  pub room : ℕ

-- a client's line is this one, and all others are unchanged
abbrev pub StoresLine : List (ℕ × LineId) → ℕ → LineId → List (ℕ × LineId) → Type 0
StoresLine old c line new =
    (d : ℕ) → latest_line new d ≡ (if nat_eq c d then Some line else latest_line old d)

-- all these answers, in order, each under the line that is stored for its client
abbrev pub latest_text : List (ℕ × LineId) → List ReplyView → List ℕ
latest_text pending ts = flat_map (λ t. reply_text (latest_line pending t.client) t.outcome) ts

-- a client's line is stored, and it made the call at this place
abbrev pub IsLineOf : List (ℕ × LineId) → List (ℕ × LineId) → ℕ → ℕ → Type 0
IsLineOf pending calls c j =
    (line : LineId) × ((latest_line pending c ≡ Some line) × (line_at calls j ≡ Some line))

-- after this history the line of each open call is stored for its client, and no call is noted at a
-- place that is still to come
pub record AreLines (pending calls : List (ℕ × LineId)) (h : History) : Type 0 where
  pub fresh : IsFresh calls (place h)
  pub stored : (w : WaitingCall) → In w (open_calls h) → IsLineOf pending calls w.client w.place

-- a core's entries since its Start are the one legal list for their events
pub record IsLegal (core : CoreState) : Type 0 where
  pub starts : IsStart core.start
  pub legal : LegalSince core.start core.entries (events_of core.entries)

-- a core's entries are legal in this way, and its limit is that of a script's history
pub record IsSound (core : CoreState) : Type 0 where
  pub limit : core.limit ≡ entries_between_seals
  pub legal : IsLegal core

-- what is noted of an accepted event
abbrev pub mark_of : Event → Mark
mark_of (event.Join p) = Client
mark_of (event.Call c call) = Call c
mark_of _ = Nothing

-- the lines of clients, with that of a call that is just being noted before those that are stored
abbrev pub own_first : Mark → LineId → List (ℕ × LineId) → List (ℕ × LineId)
own_first (Call c) line pending = (c, line) ∷ pending
own_first _ line pending = pending

-- the answer to an event's own call, if it is already answered
abbrev pub own_answers : Mark → ℕ → Option Outcome → List ReplyView
own_answers (Call c) place (Some x) = record { client = c; place = place; outcome = x } ∷ []
own_answers _ place x = []

-- the text of that answer
abbrev pub own_text : Mark → LineId → Option Outcome → List ℕ
own_text (Call c) line (Some x) = reply_text (Some line) x
own_text _ line x = []

-- the clients after a line with this mark
abbrev pub clients_marked : Mark → Who → ℕ → List (List ℕ × ℕ) → List (List ℕ × ℕ)
clients_marked Client who place rows = clients_joined who place rows
clients_marked _ who place rows = rows

-- the lines of calls after a line with this mark
abbrev pub calls_marked : Mark → LineId → ℕ → List (ℕ × LineId) → List (ℕ × LineId)
calls_marked (Call c) line place rows = rows ++ (place, line) ∷ []
calls_marked _ line place rows = rows

-- after a call with no answer yet, its line is stored for its client; otherwise nothing changes
abbrev pub StoresPendingLine : Option Outcome → Mark → LineId → List (ℕ × LineId) → List (ℕ
    × LineId)
    → Type 0
StoresPendingLine None (Call c) line old new = StoresLine old c line new
StoresPendingLine _ _ line old new = new ≡ old

-- the greeting that is written for a line
abbrev pub greeting_marked : Mark → LineId → List ℕ
greeting_marked Client line = reply_line (Some line.who) line.number (word.Outcome Done)
greeting_marked _ line = []

-- these lines were answered, and a text that may be written for them was appended
pub record AnswersCuts (s : Script) (cuts : List Cut) (old : List ℕ) (last : Script)
    (new : List ℕ) : Type 0 where
  pub text : List ℕ
  pub says : AnswersLines s (map script_of cuts) last text
  pub grows : new ≡ old ++ text

-- the lines that a cutter gave between two states were answered in this way
pub record AnswersBetween (cutter : CutterView) (s : Script) (old : List ℕ) (next : CutterView)
    (last : Script)
    (new : List ℕ) : Type 0 where
  pub cuts : List Cut
  pub given : (more : List ℕ) → lines_to_come cutter more ≡ cuts ++ lines_to_come next more
  pub answered : AnswersCuts s cuts old last new
