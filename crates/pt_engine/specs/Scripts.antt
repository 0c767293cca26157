-- Scripts: what is known after some lines of a script, and what its next line asks for.
use Rattle.std.specs.Prelude.{ℕ, suc, ◌++◌, Bool, true, false, List, [], ◌∷◌, count_by, nat_eq}
use Rattle.std.specs.Prelude.{Option, Some, None, Result, Ok, Err, if◌then◌else◌}
use Rattle.std.specs.List.{flat_map}
use Rattle.std.specs.Map.{lookup}
use Rattle.std.specs.Str.{bytes_eq}
use Rattle.pt_types.specs.declared.outcome.Outcome.{Outcome}
use Rattle.pt_types.specs.declared.outcome.Outcome.TheVariants.{Done}
use Rattle.pt_types.specs.declared.outcome.Refusal.{Refusal}
use Rattle.pt_types.specs.declared.outcome.Refusal.TheVariants.{Syntax, Dead, Nohello}
use Rattle.pt_grammar.specs.declared.client.Who.{Who}
use Rattle.pt_grammar.specs.declared.client.Who.TheVariants.{Named, Star, Unknown}
use Rattle.pt_grammar.specs.declared.script_line.ScriptBody.{ScriptBody}
use Rattle.pt_grammar.specs.declared.script_line.ScriptBody.TheVariants.{Hello, Ask, Die, Tick}
use Rattle.pt_grammar.specs.declared.script_line.ScriptLine.{ScriptLine}
use Rattle.pt_lines.specs.declared.reply.Word.TheVariants as word
use Rattle.pt_lines.specs.Replies.{reply_line}
use Rattle.pt_model.specs.declared.entry.Entry.{Entry}
use Rattle.pt_model.specs.declared.entry.Event.{Event}
use Rattle.pt_model.specs.declared.entry.Event.TheVariants as event
use Rattle.pt_model.specs.Starts.{Start, empty_start}
use Rattle.pt_model.specs.Histories.{History}
use Rattle.pt_model.specs.Clients.{is_alive}
use Rattle.pt_model.specs.Records.{ReplyView}
use Rattle.pt_legal.specs.Cores.{CoreState, history_of}
use Rattle.pt_engine.specs.declared.line_id.LineId.{LineId}

-- what is known after some lines: what the history of the accepted ones begins with and its entries
-- since, which client each line belongs to, the number of each client that has joined under a name,
-- and which line made the call at each place, including those before the history was sealed
pub record Script : Type 0 where
  pub start : Start
  pub entries : List Entry
  pub seen : List Who
  pub clients : List (List ℕ × ℕ)
  pub calls : List (ℕ × LineId)

-- the entries of a script's history between two seals, with the room reserved for what must follow:
-- more than any event may need  [profile]
abbrev pub entries_between_seals : ℕ
entries_between_seals = 65536

-- what is known before the first line
abbrev pub empty_script : Script
empty_script = record { start = empty_start; entries = []; seen = []; clients = []; calls = [] }

-- the core after these lines; `history_of (core_of s)` is the history
abbrev pub core_of : Script → CoreState
core_of s = record { start = s.start; entries = s.entries; limit = entries_between_seals }

-- whether two lines are of one client; all lines of `*` are, and so are those of `?`  [profile]
abbrev pub same_who : Who → Who → Bool
same_who (Named n) (Named m) = bytes_eq n m
same_who Star Star = true
same_who Unknown Unknown = true
same_who _ _ = false

-- the number of these lines that are the client's
abbrev pub lines_of_who : List Who → Who → ℕ
lines_of_who seen who = count_by (λ w. same_who w who) seen

-- the client's next line, with its number among the client's lines, from 1  [profile]
abbrev pub line_id : Script → Who → LineId
line_id s who = record { who = who; number = suc (lines_of_who s.seen who) }

-- the number of the client with this name, if one has joined under it
abbrev pub number_named : List (List ℕ × ℕ) → List ℕ → Option ℕ
number_named rows name = lookup (bytes_eq name) rows

-- the number of a client that has joined; `*` and `?` never do  [profile]
abbrev pub number_of_who : List (List ℕ × ℕ) → Who → Option ℕ
number_of_who rows (Named name) = number_named rows name
number_of_who rows _ = None

-- the line that made the call at a place
abbrev pub line_at : List (ℕ × LineId) → ℕ → Option LineId
line_at rows j = lookup (nat_eq j) rows

-- why a hello under a name with which a client has joined is refused: DEAD once that client has
-- died  [profile]
abbrev pub refusal_of_hello : History → ℕ → Refusal
refusal_of_hello h c = if is_alive h c then Nohello else Dead

-- what a hello asks for: it comes first and once  [profile]
abbrev pub join_for : History → ℕ → Option ℕ → Result Event Refusal
join_for h p None = Ok (event.Join p)
join_for h p (Some c) = Err (refusal_of_hello h c)

-- what any other line of a client asks for: hello comes first  [profile]
abbrev pub line_of_client : (ℕ → Event) → Option ℕ → Result Event Refusal
line_of_client make None = Err Nohello
line_of_client make (Some c) = Ok (make c)

-- what a line says, as an event; moments come under `*`, and nothing else does  [profile]
abbrev pub event_for : Script → Who → ScriptBody → Result Event Refusal
event_for s (Named name) (Hello p) = join_for (history_of (core_of s)) p
    (number_named s.clients name)
event_for s (Named name) (Ask call) =
    line_of_client (λ c. event.Call c call) (number_named s.clients name)
event_for s (Named name) Die = line_of_client (λ c. event.Death c) (number_named s.clients name)
event_for s Star (Tick clock t) = Ok (event.Moment clock t)
event_for s _ _ = Err Syntax

-- the event of a line, if it could be read
abbrev pub event_of_body : Script → Who → Result ScriptBody Refusal → Result Event Refusal
event_of_body s who (Err r) = Err r
event_of_body s who (Ok body) = event_for s who body

-- the event that a line asks for, or why it asks for none
abbrev pub event_of_line : Script → ScriptLine → Result Event Refusal
event_of_line s line = event_of_body s line.who line.body

-- an answer under the line that made its call
abbrev pub reply_text : Option LineId → Outcome → List ℕ
reply_text None x = []
reply_text (Some line) x = reply_line (Some line.who) line.number (word.Outcome x)

-- all these answers, in order, each under the line that made its call
abbrev pub replies_text : List (ℕ × LineId) → List ReplyView → List ℕ
replies_text calls ts = flat_map (λ t. reply_text (line_at calls t.place) t.outcome) ts

-- a refusal, under its own line  [profile]
abbrev pub refusal_text : LineId → Refusal → List ℕ
refusal_text line r = reply_line (Some line.who) line.number (word.Refusal r)

-- the clients after a join, including the number of its client
abbrev pub clients_joined : Who → ℕ → List (List ℕ × ℕ) → List (List ℕ × ℕ)
clients_joined (Named name) c rows = rows ++ (name, c) ∷ []
clients_joined who c rows = rows

-- the clients after an accepted event of this line, whose entry is at this place
abbrev pub clients_with : Event → Who → ℕ → List (List ℕ × ℕ) → List (List ℕ × ℕ)
clients_with (event.Join p) who place rows = clients_joined who place rows
clients_with _ who place rows = rows

-- the lines of calls after an accepted event of this line, whose entry is at this place
abbrev pub calls_with : Event → LineId → ℕ → List (ℕ × LineId) → List (ℕ × LineId)
calls_with (event.Call c call) line place rows = rows ++ (place, line) ∷ []
calls_with _ line place rows = rows

-- an accepted hello is answered 0 under its own line  [profile]
abbrev pub greeting : Event → LineId → List ℕ
greeting (event.Join p) line = reply_line (Some line.who) line.number (word.Outcome Done)
greeting _ line = []
