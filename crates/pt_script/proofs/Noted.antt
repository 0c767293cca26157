-- The line that made a call is noted at its place, and is the line of the call's client.
use Rattle.std.proofs.Common.{◌≡◌, ℕ, ◌<◌, ◌==◌, Bool, true, false, cond, List, [], ◌∷◌, Option}
use Rattle.std.proofs.Common.{Some, None, Result, Ok, Err, refl, sym, ap, ◌∙◌, subst, arith}
use Rattle.std.proofs.lemmas.Bool.Decides.{nat_tests}
use Rattle.std.specs.Option.{option_or}
use Rattle.std.specs.Str.{bytes_eq}
use Rattle.pt_types.specs.declared.outcome.Refusal.{Refusal}
use Rattle.pt_grammar.specs.declared.client.Who.{Who}
use Rattle.pt_grammar.specs.declared.client.Who.TheVariants.{Named, Star, Unknown}
use Rattle.pt_grammar.specs.declared.script_line.ScriptBody.{ScriptBody}
use Rattle.pt_grammar.specs.declared.script_line.ScriptBody.TheVariants.{Hello, Ask, Die}
use Rattle.pt_grammar.specs.declared.script_line.ScriptLine.{ScriptLine}
use Rattle.pt_types.specs.declared.call.Call.{Call as FunctionCall}
use Rattle.pt_model.specs.declared.entry.Entry.{Entry}
use Rattle.pt_model.specs.declared.entry.Entry.TheVariants.{Call}
use Rattle.pt_model.specs.declared.entry.Event.{Event}
use Rattle.pt_model.specs.declared.entry.Event.TheVariants as event
use Rattle.pt_model.specs.Starts.{Start}
use Rattle.pt_model.specs.Histories.{History, Begin, ◌▷◌, append_entries, history_since, place}
use Rattle.pt_model.specs.Queries.{caller}
use Rattle.pt_model.specs.Legal.{event_of, events_of}
use Rattle.pt_model.specs.Room.{entry_for}
use Rattle.pt_model.specs.Answers.{replies_since}
use Rattle.pt_model.specs.Steps.{begins}
use Rattle.pt_model.proofs.Lists.{Each-weaker}
use Rattle.pt_client_events.proofs.EventTallies.{place-more}
use Rattle.pt_legal.specs.Cores.{CoreState, history_of}
use Rattle.pt_legal.specs.Applying.{WritesEvent, core_for_event}
use Rattle.pt_engine.specs.declared.line_id.LineId.{LineId}
use Rattle.pt_engine.specs.Scripts.{Script, empty_script, core_of, line_id, calls_with}
use Rattle.pt_engine.specs.Scripts.{clients_with}
use Rattle.pt_engine.specs.Scripts.{event_for, event_of_body, event_of_line, join_for, line_at}
use Rattle.pt_engine.specs.Scripts.{number_named, number_of_who, line_of_client}
use Rattle.pt_engine.specs.LineAnswers.{AnswersLines, AnswersEvent, AnswersRequest, IsAccepted, count_line}
use Rattle.pt_engine.specs.LineAnswers.{core_for_line, refuses}
use Rattle.pt_engine.specs.LineAnswers.{lacks, accepts}
use Rattle.pt_engine.specs.Engines.{IsFresh, IsLegal, mark_of}
use Rattle.pt_script.specs.Laws.{AnswersHaveLines, HasLine}
use Rattle.pt_engine.proofs.Accepted.{calls_as, fresh_noted}
use Rattle.pt_engine.proofs.CallLines.{line_here, line_on}
use Rattle.pt_engine.proofs.Callers.{IsOwn, caller_sealed, replies_own}
use Rattle.pt_engine.proofs.Counted.{lookup_push}
use Rattle.pt_engine.proofs.Followers.{cons_none, none_forced}
use Rattle.pt_engine.proofs.Opened.{goes_on, legal_follow, legal_next, legal_sealed, longer}
use Rattle.pt_engine.proofs.Opened.{opened_by, place_opened, same_start}

-- the line of the call at a place is noted, and belongs to this client
abbrev pub IsNoted : List (ℕ × LineId) → List (List ℕ × ℕ) → ℕ → ℕ → Type 0
IsNoted calls clients j c =
    (line : LineId) × ((line_at calls j ≡ Some line) × (number_of_who clients line.who ≡ Some c))

-- a client is still found after more have joined
number_on : (v : Event) (who other : Who) (place c : ℕ) (clients : List (List ℕ × ℕ))
    → number_of_who clients other ≡ Some c → number_of_who (clients_with v who place clients) other
    ≡ Some c
number_on (event.Join p) (Named name) (Named found) place c clients is =
    lookup_push (bytes_eq found) clients name place
    ∙ ap (λ o. option_or o (cond (bytes_eq found name) (Some place) None)) is
number_on (event.Join p) (Named name) Star place c clients is = is
number_on (event.Join p) (Named name) Unknown place c clients is = is
number_on (event.Join p) Star other place c clients is = is
number_on (event.Join p) Unknown other place c clients is = is
number_on _ who other place c clients is = is

noted_on : (v : Event) (line : LineId) (place j c : ℕ) (calls : List (ℕ × LineId))
    (clients : List (List ℕ × ℕ)) → IsNoted calls clients j c
    → IsNoted (calls_with v line place calls) (clients_with v line.who place clients) j c
noted_on v line place j c calls clients is = (
  is.0,
  (
    line_on v line is.0 place j calls is.1.0,
    number_on v line.who is.0.who place c clients is.1.1,
  ),
)

callers_kept : (h : History) (es : List Entry) (j : ℕ) → events_of es ≡ []
    → caller (append_entries h es) j ≡ caller h j
callers_kept h [] j none = refl
callers_kept h (Call c call r ∷ es) j none = absurd cc
callers_kept h (e ∷ es) j none =
    callers_kept (h ▷ e) es j (cons_none (event_of e) (events_of es) none)

-- the client of a call is the client of its line
abbrev pub IsAsked : Event → Who → List (List ℕ × ℕ) → Type 0
IsAsked (event.Call c call) who clients = number_of_who clients who ≡ Some c
IsAsked _ who clients = Unit {0}

event_asked : (s : Script) (who : Who) (body : ScriptBody) (c : ℕ) (call : FunctionCall)
    → event_for s who body ≡ Ok (event.Call c call) → number_of_who s.clients who ≡ Some c
event_asked s (Named name) (Hello p) c call e = go (number_named s.clients name) e
  where
    go : (o : Option ℕ) → join_for (history_of (core_of s)) p o ≡ Ok (event.Call c call)
        → number_named s.clients name ≡ Some c
    go None e = absurd cc
    go (Some d) e = absurd cc
event_asked s (Named name) (Ask asked) c call e = go (number_named s.clients name) e
  where
    go : (o : Option ℕ) → line_of_client (λ d. event.Call d asked) o ≡ Ok (event.Call c call)
        → o ≡ Some c
    go None e = absurd cc
    go (Some d) e = let same : d ≡ c = cc in ap Some same
event_asked s (Named name) Die c call e = go (number_named s.clients name) e
  where
    go : (o : Option ℕ) → line_of_client (λ d. event.Death d) o ≡ Ok (event.Call c call)
        → number_named s.clients name ≡ Some c
    go None e = absurd cc
    go (Some d) e = absurd cc
event_asked s Star (Hello p) c call e = absurd cc
event_asked s Star _ c call e = absurd cc
event_asked s _ _ c call e = absurd cc

asked_of : (s : Script) (who : Who) (body : Result ScriptBody Refusal) (v : Event)
    → event_of_body s who body ≡ Ok v → IsAsked v who s.clients
asked_of s who (Err why) v e = absurd cc
asked_of s who (Ok body) (event.Call c call) e = event_asked s who body c call e
asked_of s who (Ok body) _ e = tt

-- each call of a legal history is noted, and no call is noted at a place that is still to come
pub record AreNoted (core : CoreState) (clients : List (List ℕ × ℕ)) (calls : List (ℕ × LineId)) :
    Type 0 where
  pub legal : IsLegal core
  pub fresh : IsFresh calls (place (history_of core))
  pub lines : (j c : ℕ) → caller (history_of core) j ≡ Some c → IsNoted calls clients j c

abbrev pub IsWellNoted : Script → Type 0
IsWellNoted s = AreNoted (core_of s) s.clients s.calls

-- the same for the core that is opened for an event
opened_noted : (core : CoreState) (v : Event) (clients : List (List ℕ × ℕ))
    (calls : List (ℕ × LineId)) → AreNoted core clients calls
    → AreNoted (core_for_event core v) clients calls
opened_noted core v clients calls n =
    opened_by (λ k. AreNoted k clients calls) core v (λ e. n) (λ e. record {
      legal = legal_sealed core n.legal;
      fresh = n.fresh;
      lines = λ j c called.
          n.lines j c (caller_sealed (history_of core) (legal_follow core n.legal) j c called);
    })

-- each call is noted after the entry of an event
lines_after : (core : CoreState) (clients : List (List ℕ × ℕ)) (calls : List (ℕ × LineId))
    (v : Event) (line : LineId) → AreNoted core clients calls → IsAsked v line.who clients
    → (j c : ℕ) → caller (history_of core ▷ entry_for (history_of core) v) j ≡ Some c
    → IsNoted (calls_with v line (place (history_of core)) calls)
    (clients_with v line.who (place (history_of core)) clients) j c
lines_after core clients calls (event.Call d call) line n asked j c e =
    go (place h == j) refl e
  where
    h : History
    h = history_of core

    noted : List (ℕ × LineId)
    noted = calls_with (event.Call d call) line (place h) calls

    go : (b : Bool) → (place h == j) ≡ b → cond b (Some d) (caller h j) ≡ Some c
        → IsNoted noted clients j c
    go true at e =
        let same : d ≡ c = cc in
        let here : place h ≡ j = grind (arith, nat_tests) in
        subst (λ i. IsNoted noted clients i c) here (
          line,
          (
            line_here d call line (place h) calls (n.fresh (place h) (omega arith)),
            asked ∙ ap Some same,
          ),
        )
    go false at e =
        noted_on (event.Call d call) line (place h) j c calls clients (n.lines j c e)
lines_after core clients calls v line n asked j c e =
    noted_on v line (place (history_of core)) j c calls clients (n.lines j c e)

-- and after the entries that must follow it
next_noted : (core next : CoreState) (v : Event) (line : LineId) (clients : List (List ℕ × ℕ))
    (calls : List (ℕ × LineId)) → AreNoted core clients calls → IsAsked v line.who clients
    → WritesEvent core v next
    → AreNoted next (clients_with v line.who (place (history_of core)) clients)
    (calls_with v line (place (history_of core)) calls)
next_noted core next v line clients calls n asked a = record {
  legal = legal_next core next v a n.legal;
  fresh =
      fresh_noted calls (calls_with v line (place (history_of core)) calls) (mark_of v) line
      (place (history_of core)) (place (history_of next)) n.fresh below
      (sym (calls_as v line (place (history_of core)) calls));
  lines = λ j c e. lines_after core clients calls v line n asked j c (sym (callers j) ∙ e);
}
  where
    below : place (history_of core) < place (history_of next)
    below =
        let more = place-more core.start core.entries v next.entries
        (goes_on core next v a n.legal) in
        let same = ap (λ (s : Start). place (history_since s next.entries)) a.starts in
        omega (arith, more, same)

    callers : (j : ℕ)
        → caller (history_of next) j ≡ caller (history_of core ▷ entry_for (history_of core) v) j
    callers j =
        ap (λ g. caller g j) (longer core next v a)
        ∙ callers_kept (history_of core ▷ entry_for (history_of core) v) a.extends.0 j
        (none_forced core.start core.entries next.entries a.extends.0 v a.extends.1
        (same_start core next v a))

event_noted : (s : Script) (v : Event) (line : LineId) (next : Script) (text : List ℕ)
    → IsWellNoted s → IsAsked v line.who s.clients → IsAccepted s v line next text
    → IsWellNoted next
event_noted s v line next text n asked a =
    subst (λ rows. AreNoted (core_of next) rows next.calls)
    (ap (λ at. clients_with v line.who at s.clients) there ∙ sym a.clients)
    (subst
    (λ rows. AreNoted (core_of next)
    (clients_with v line.who (place (history_of (core_for_line s v))) s.clients) rows)
    (ap (λ at. calls_with v line at s.calls) there ∙ sym a.calls)
    (next_noted (core_for_line s v) (core_of next) v line s.clients s.calls
    (opened_noted (core_of s) v s.clients s.calls n) asked a.writes))
  where
    there : place (history_of (core_for_line s v)) ≡ place (history_of (core_of s))
    there = place_opened (core_of s) v

line_noted : (s : Script) (line : ScriptLine) (next : Script) (text : List ℕ) → IsWellNoted s
    → (r : Result Event Refusal) → event_of_line s line ≡ r
    → AnswersRequest (count_line s line.who) (line_id s line.who) r next text → IsWellNoted next
line_noted s line next text n (Err why) e says =
    subst IsWellNoted (sym says.0) n
line_noted s line next text n (Ok v) e says = go says
  where
    go : AnswersEvent (count_line s line.who) v (line_id s line.who) next text → IsWellNoted next
    go (refuses r) = subst IsWellNoted (sym r.same) n
    go (lacks r) = subst IsWellNoted (sym r.same) n
    go (accepts a) =
        event_noted (count_line s line.who) v (line_id s line.who) next text n
        (asked_of s line.who line.body v e) a

-- this holds after all lines
pub says_noted : (s : Script) (xs : List ScriptLine) (last : Script) (text : List ℕ)
    → IsWellNoted s → AnswersLines s xs last text → IsWellNoted last
says_noted s [] last text n says = subst IsWellNoted (sym says.0) n
says_noted s (x ∷ xs) last text n says =
    says_noted says.0 xs last says.2
    (line_noted s x says.0 says.1 n (event_of_line s x) refl says.3) says.4

pub begun_noted : IsWellNoted empty_script
begun_noted = record {
  legal = record { starts = begins; legal = (refl, refl) };
  fresh = λ j far. refl;
  lines = λ j c e. absurd cc;
}

-- what is noted stays noted
noted_to : (s : Script) (line : LineId) (r : Result Event Refusal) (next : Script) (text : List ℕ)
    → AnswersRequest s line r next text → (j c : ℕ) → IsNoted s.calls s.clients j c
    → IsNoted next.calls next.clients j c
noted_to s line (Err why) next text says j c n =
    subst (λ (t : Script). IsNoted t.calls t.clients j c) (sym says.0) n
noted_to s line (Ok v) next text says j c n = go says
  where
    go : AnswersEvent s v line next text → IsNoted next.calls next.clients j c
    go (refuses r) = subst (λ (t : Script). IsNoted t.calls t.clients j c) (sym r.same) n
    go (lacks r) = subst (λ (t : Script). IsNoted t.calls t.clients j c) (sym r.same) n
    go (accepts a) =
        subst (λ rows. IsNoted next.calls rows j c) (sym a.clients)
        (subst
        (λ rows. IsNoted rows (clients_with v line.who (place (history_of
        (core_of s))) s.clients) j c)
        (sym a.calls)
        (noted_on v line (place (history_of (core_of s))) j c s.calls s.clients n))

noted_all : (s : Script) (xs : List ScriptLine) (last : Script) (text : List ℕ)
    → AnswersLines s xs last text → (j c : ℕ) → IsNoted s.calls s.clients j c
    → IsNoted last.calls last.clients j c
noted_all s [] last text says j c n =
    subst (λ (t : Script). IsNoted t.calls t.clients j c) (sym says.0) n
noted_all s (x ∷ xs) last text says j c n =
    noted_all says.0 xs last says.2 says.4 j c
    (noted_to (count_line s x.who) (line_id s x.who) (event_of_line s x) says.0 says.1 says.3 j c n)

pub answers_have_lines : AnswersHaveLines
answers_have_lines lines more s last text rest says later =
    let n = says_noted empty_script lines s text begun_noted says in
    Each-weaker (IsOwn (history_of (core_of s))) (HasLine last)
    (λ t own.
    let line = noted_all s more last rest later t.place t.client (n.lines t.place t.client own.0) in
    record { line = line.0; noted = line.1.0; own = line.1.1 })
    (replies_since s.start s.entries)
    (replies_own (Begin s.start) s.entries (legal_follow (core_of s) n.legal))
