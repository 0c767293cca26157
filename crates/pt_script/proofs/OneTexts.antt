-- There is one text for all lines, and what begins the text of the first lines begins it.
use Rattle.std.proofs.Common.{◌≡◌, ℕ, zero, suc, Bool, true, false, not, ◌&&◌, List, [], ◌∷◌, ◌++◌}
use Rattle.std.proofs.Common.{length, take, drop, map, Option, Some, None, MatchOption, Result, Ok}
use Rattle.std.proofs.Common.{Err}
use Rattle.std.proofs.Common.{refl, sym, ap, ◌∙◌, subst, append_assoc, arith}
use Rattle.std.proofs.Math.Seq.{drop-append_seam}
use Rattle.std.proofs.lemmas.Bool.{and_parts}
use Rattle.std.proofs.lemmas.List.{map-append, take-append-drop}
use Rattle.pt_types.specs.declared.outcome.Refusal.{Refusal}
use Rattle.pt_types.specs.declared.outcome.Refusal.TheVariants.{Enomem}
use Rattle.pt_grammar.specs.declared.client.Who.{Who}
use Rattle.pt_grammar.specs.declared.script_line.ScriptLine.{ScriptLine}
use Rattle.pt_grammar.specs.Lines.{lines}
use Rattle.pt_grammar.specs.Script.{script_of}
use Rattle.pt_model.specs.declared.entry.Entry.{Entry}
use Rattle.pt_model.specs.declared.entry.Event.{Event}
use Rattle.pt_model.specs.Starts.{Start}
use Rattle.pt_model.specs.Histories.{History, Begin, ◌▷◌, place}
use Rattle.pt_model.specs.Answers.{replies_from}
use Rattle.pt_model.specs.Forced.{forced}
use Rattle.pt_model.specs.Legal.{TakesEvent, LegalSince, LegalFrom, events_of}
use Rattle.pt_model.specs.Room.{need, entry_for, refusal, refusal_for_room, refusal_within}
use Rattle.pt_model.specs.Steps.{begins}
use Rattle.pt_model.proofs.Legality.{legal-more}
use Rattle.pt_model.proofs.OneList.{one_list}
use Rattle.pt_model.proofs.Steps.{step-event}
use Rattle.pt_legal.specs.Cores.{CoreState, history_of}
use Rattle.pt_legal.specs.Applying.{WritesEvent, is_death}
use Rattle.pt_engine.specs.declared.line_id.LineId.{LineId}
use Rattle.pt_engine.specs.Scripts.{Script, empty_script, core_of, line_id, calls_with}
use Rattle.pt_engine.specs.Scripts.{clients_with}
use Rattle.pt_engine.specs.Scripts.{event_of_line, greeting, refusal_text, replies_text}
use Rattle.pt_engine.specs.LineAnswers.{AnswersLines, AnswersEvent, AnswersRequest, IsRefused, IsAccepted}
use Rattle.pt_engine.specs.LineAnswers.{count_line}
use Rattle.pt_engine.specs.LineAnswers.{core_for_line, refusal_of_event, refuses, lacks, accepts}
use Rattle.pt_engine.specs.Engines.{IsLegal}
use Rattle.pt_script.specs.Laws.{BeginningsOfAll, OneText, AnswersLinesIf, AnswersEventIf}
use Rattle.pt_script.specs.Laws.{AnswersRequestIf}
use Rattle.pt_script.specs.Laws.{accepted, lines_of, refused, unmet}
use Rattle.pt_engine.proofs.Opened.{legal_follow, legal_next, legal_opened, legal_settle}
use Rattle.pt_engine.proofs.Opened.{limit_opened, same_start}
use Rattle.pt_engine.proofs.Runs.{says_join}
use Rattle.pt_script.proofs.EachTexts.{met_all, said_all}
use Rattle.pt_script.proofs.Settled.{settles}
use Rattle.pt_script.proofs.Unrefused.{not_refused, unrefused_opened}

-- the text is the same, and so is the script after it
abbrev Same : Script → List ℕ → Script → List ℕ → Type 0
Same s text t other = (s ≡ t) × (text ≡ other)

abbrev made : Start → List Entry → List Who → List (List ℕ × ℕ) → List (ℕ × LineId) → Script
made start entries seen clients noted = record {
  start = start;
  entries = entries;
  seen = seen;
  clients = clients;
  calls = noted;
}

same_script : (s t : Script) → s.start ≡ t.start → s.entries ≡ t.entries → s.seen ≡ t.seen
    → s.clients ≡ t.clients → s.calls ≡ t.calls → s ≡ t
same_script s t start entries seen clients noted =
    ap (λ x. made x s.entries s.seen s.clients s.calls) start
    ∙ ap (λ x. made t.start x s.seen s.clients s.calls) entries
    ∙ ap (λ x. made t.start t.entries x s.clients s.calls) seen
    ∙ ap (λ x. made t.start t.entries t.seen x s.calls) clients
    ∙ ap (λ x. made t.start t.entries t.seen t.clients x) noted

same_refused : (s : Script) (v : Event) (line : LineId) (a : Script) (xs : List ℕ) (b : Script)
    (ys : List ℕ) → IsRefused s v line a xs → IsRefused s v line b ys → Same a xs b ys
same_refused s v line a xs b ys p q =
    let why : ◌≡◌ {A = Option Refusal} (Some p.why) (Some q.why) = sym p.refused ∙ q.refused in
    let same : p.why ≡ q.why = cc in (
      p.same ∙ sym q.same,
      p.written ∙ ap (refusal_text line) same ∙ sym q.written,
    )

same_accepted : (s : Script) (v : Event) (line : LineId) (a : Script) (xs : List ℕ) (b : Script)
    (ys : List ℕ) → IsAccepted s v line a xs → IsAccepted s v line b ys → Same a xs b ys
same_accepted s v line a xs b ys p q = (
  same_script a b (p.writes.starts ∙ sym q.writes.starts) entries (p.seen ∙ sym q.seen)
      (p.clients ∙ sym q.clients) calls,
  p.written
      ∙ ap (λ es. greeting v line ++ replies_text a.calls (replies_from (history_of core) es)) added
      ∙ ap (λ rows. greeting v line ++ replies_text rows (replies_from
      (history_of core) q.added)) calls
      ∙ sym q.written,
)
  where
    core : CoreState
    core = core_for_line s v

    entries : a.entries ≡ b.entries
    entries =
        one_list core.start (events_of core.entries ++ v ∷ []) a.entries b.entries
        (same_start core (core_of a) v p.writes) (same_start core (core_of b) v q.writes)

    calls : a.calls ≡ b.calls
    calls = p.calls ∙ sym q.calls

    added : p.added ≡ q.added
    added =
        sym (drop-append_seam core.entries p.added)
        ∙ ap (drop (length core.entries)) (sym p.extends ∙ entries ∙ q.extends)
        ∙ drop-append_seam core.entries q.added

-- what is refused is not accepted
clash : {X : Type 0} (r : Option Refusal) (why : Refusal) → r ≡ Some why → r ≡ None → X
clash r why some none = absurd (let no = sym some ∙ none in cc)

unmet_not : {X : Type 0} (wanted ends : Bool) → wanted ≡ true → ends ≡ false
    → (wanted && not ends) ≡ false → X
unmet_not true false w d other = absurd cc
unmet_not true true w d other = absurd cc
unmet_not false ends w d other = absurd cc

same_met : (wanted : Bool) (s : Script) (v : Event) (line : LineId) (a : Script) (xs : List ℕ)
    (b : Script) (ys : List ℕ) → AnswersEventIf wanted s v line a xs
    → AnswersEventIf wanted s v line b ys
    → Same a xs b ys
same_met wanted s v line a xs b ys (refused p) (refused q) = same_refused s v line a xs b ys p q
same_met wanted s v line a xs b ys (refused p) (unmet w q) =
    clash (refusal_of_event s v) p.why p.refused q.accepted
same_met wanted s v line a xs b ys (refused p) (accepted n q) =
    clash (refusal_of_event s v) p.why p.refused q.accepted
same_met wanted s v line a xs b ys (unmet w p) (refused q) =
    clash (refusal_of_event s v) q.why q.refused p.accepted
same_met wanted s v line a xs b ys (unmet w p) (unmet u q) =
    (p.same ∙ sym q.same, p.written ∙ sym q.written)
same_met wanted s v line a xs b ys (unmet w p) (accepted n q) =
    unmet_not wanted (is_death v) w p.lives n
same_met wanted s v line a xs b ys (accepted n p) (refused q) =
    clash (refusal_of_event s v) q.why q.refused p.accepted
same_met wanted s v line a xs b ys (accepted n p) (unmet w q) =
    unmet_not wanted (is_death v) w q.lives n
same_met wanted s v line a xs b ys (accepted n p) (accepted m q) =
    same_accepted s v line a xs b ys p q

same_to : (wanted : Bool) (s : Script) (line : LineId) (r : Result Event Refusal) (a : Script)
    (xs : List ℕ) (b : Script) (ys : List ℕ) → AnswersRequestIf wanted s line r a xs
    → AnswersRequestIf wanted s line r b ys → Same a xs b ys
same_to wanted s line (Err why) a xs b ys p q = (p.0 ∙ sym q.0, p.1 ∙ sym q.1)
same_to wanted s line (Ok v) a xs b ys p q = same_met wanted s v line a xs b ys p q

same_all : (wanted : ℕ → Bool) (s : Script) (lines : List ScriptLine) (a : Script) (xs : List ℕ)
    (b : Script) (ys : List ℕ) → AnswersLinesIf wanted s lines a xs
    → AnswersLinesIf wanted s lines b ys
    → Same a xs b ys
same_all wanted s [] a xs b ys p q = (p.0 ∙ sym q.0, p.1 ∙ sym q.1)
same_all wanted s (line ∷ more) a xs b ys p q =
    let first =
    same_to (wanted zero) (count_line s line.who) (line_id s line.who)
    (event_of_line s line) p.0 p.1
    q.0 q.1 p.3 q.3 in
    let rest =
    same_all (λ k. wanted (suc k)) p.0 more a p.2 b q.2 p.4
    (subst (λ t. AnswersLinesIf (λ k. wanted (suc k)) t more b q.2) (sym first.0) q.4) in (
      rest.0,
      p.5 ∙ ap (λ t. t ++ p.2) first.1 ∙ ap (λ t. q.1 ++ t) rest.1 ∙ sym q.5,
    )

-- the entries are the legal list for their own events
abbrev IsLegalAfter : Script → Type 0
IsLegalAfter s = IsLegal (core_of s)

begun_legal : IsLegalAfter empty_script
begun_legal = record { starts = begins; legal = (refl, refl) }

-- an event that is not refused can be accepted
can_accept : (s : Script) (v : Event) (line : LineId) → IsLegalAfter s
    → refusal_of_event s v ≡ None
    → (next : Script) × (text : List ℕ) × IsAccepted s v line next text × IsLegalAfter next
can_accept s v line legal none = (
  next,
  greeting v line ++ replies_text next.calls (replies_from h (entry ∷ rest.0)),
  record {
    accepted = none;
    writes = writes;
    added = entry ∷ rest.0;
    extends = refl;
    seen = refl;
    clients = refl;
    calls = refl;
    written = refl;
  },
  legal_next core (core_of next) v writes there,
)
  where
    core : CoreState
    core = core_for_line s v

    there : IsLegal core
    there = legal_opened (core_of s) legal v

    h : History
    h = history_of core

    entry : Entry
    entry = entry_for h v

    settled : forced h ≡ None
    settled = legal_settle core there

    within : refusal_within core.limit h v ≡ None
    within = unrefused_opened (core_of s) legal v none

    open_to : refusal h v ≡ None
    open_to = not_refused (refusal h v) (refusal_for_room core.limit h v) within

    rest : (fs : List Entry) × LegalFrom (h ▷ entry) fs []
    rest =
        settles (need (h ▷ entry)) (h ▷ entry)
        (legal_follow core there, step-event h v settled open_to) (omega arith)

    next : Script
    next = record {
      start = core.start;
      entries = core.entries ++ entry ∷ rest.0;
      seen = s.seen;
      clients = clients_with v line.who (place (history_of (core_of s))) s.clients;
      calls = calls_with v line (place (history_of (core_of s))) s.calls;
    }

    longer :
        LegalSince core.start (core.entries ++ entry ∷ rest.0)
        (events_of core.entries ++ v ∷ [])
    longer =
        legal-more (Begin core.start) core.entries (entry ∷ rest.0) (events_of core.entries)
        (v ∷ []) there.legal
        (subst
        (λ o. MatchOption o (TakesEvent h entry (v ∷ []) (LegalFrom (h ▷ entry) rest.0))
        (λ x. (entry ≡ x) × LegalFrom (h ▷ entry) rest.0 (v ∷ []))) (sym settled)
        (open_to, refl, rest.1))

    writes : WritesEvent core v (core_of next)
    writes = record {
      accepted = within;
      starts = refl;
      extends = (rest.0, refl);
      legal = longer;
      same_limit = sym (limit_opened (core_of s) v);
    }

-- there is a text for an event
can_answer : (wanted : Bool) (s : Script) (v : Event) (line : LineId) → IsLegalAfter s
    → (next : Script) × (text : List ℕ) × AnswersEventIf wanted s v line next text
    × IsLegalAfter next
can_answer wanted s v line legal = go (refusal_of_event s v) refl
  where
    go : (o : Option Refusal) → refusal_of_event s v ≡ o
        → (next : Script) × (text : List ℕ) × AnswersEventIf wanted s v line next text
        × IsLegalAfter next
    go (Some why) e = (
      s,
      refusal_text line why,
      refused (record { why = why; refused = e; same = refl; written = refl }),
      legal,
    )
    go None e = by (wanted && not (is_death v)) refl
      where
        lives : (b : Bool) → not b ≡ true → b ≡ false
        lives true e = absurd cc
        lives false e = refl

        by : (b : Bool) → (wanted && not (is_death v)) ≡ b
            → (next : Script) × (text : List ℕ) × AnswersEventIf wanted s v line next text
            × IsLegalAfter next
        by true both =
            let parts = and_parts wanted (not (is_death v)) both in (
              s,
              refusal_text line Enomem,
              unmet parts.0
                  (record {
                    accepted = e;
                    lives = lives (is_death v) parts.1;
                    same = refl;
                    written = refl;
                  }),
              legal,
            )
        by false other =
            let some = can_accept s v line legal e in
            (some.0, some.1, accepted other some.2, some.3)

-- so there is for a line
can_say : (wanted : Bool) (s : Script) (line : LineId) (r : Result Event Refusal) → IsLegalAfter s
    → (next : Script) × (text : List ℕ) × AnswersRequestIf wanted s line r next text
    × IsLegalAfter next
can_say wanted s line (Err why) legal = (s, refusal_text line why, (refl, refl), legal)
can_say wanted s line (Ok v) legal = can_answer wanted s v line legal

-- and for all lines
can_say_all : (wanted : ℕ → Bool) (s : Script) (lines : List ScriptLine) → IsLegalAfter s
    → (last : Script) × (text : List ℕ) × AnswersLinesIf wanted s lines last text
can_say_all wanted s [] legal = (s, [], (refl, refl))
can_say_all wanted s (line ∷ more) legal =
    let first =
    can_say (wanted zero) (count_line s line.who) (line_id s line.who)
    (event_of_line s line) legal in
    let rest = can_say_all (λ k. wanted (suc k)) first.0 more first.3 in (
      rest.0,
      first.1 ++ rest.1,
      (first.0, first.1, rest.1, first.2, rest.2, refl),
    )

pub one_text : OneText
one_text wanted lines =
    let some = can_say_all wanted empty_script lines begun_legal in
    record {
      last = some.0;
      text = some.1;
      says = some.2;
      one = λ other others says. same_all wanted empty_script lines other others some.0 some.1 says
          some.2;
    }

-- after lines the entries are still the legal list for their own events
legal_of : (s : Script) (v : Event) (line : LineId) (next : Script) (text : List ℕ) → IsLegalAfter s
    → AnswersEvent s v line next text → IsLegalAfter next
legal_of s v line next text legal (refuses r) = subst IsLegalAfter (sym r.same) legal
legal_of s v line next text legal (lacks r) = subst IsLegalAfter (sym r.same) legal
legal_of s v line next text legal (accepts a) =
    legal_next (core_for_line s v) (core_of next) v a.writes (legal_opened (core_of s) legal v)

legal_to : (s : Script) (line : LineId) (r : Result Event Refusal) (next : Script) (text : List ℕ)
    → IsLegalAfter s → AnswersRequest s line r next text → IsLegalAfter next
legal_to s line (Err why) next text legal says = subst IsLegalAfter (sym says.0) legal
legal_to s line (Ok v) next text legal says = legal_of s v line next text legal says

legal_all : (s : Script) (lines : List ScriptLine) (last : Script) (text : List ℕ) → IsLegalAfter s
    → AnswersLines s lines last text → IsLegalAfter last
legal_all s [] last text legal says = subst IsLegalAfter (sym says.0) legal
legal_all s (line ∷ more) last text legal says =
    legal_all says.0 more last says.2
    (legal_to (count_line s line.who) (line_id s line.who)
    (event_of_line s line) says.0 says.1 legal
    says.3)
    says.4

pub beginnings_of_all : BeginningsOfAll
beginnings_of_all bytes text b =
    let first = take b.count (lines bytes) in
    let later = drop b.count (lines bytes) in
    let all_lines : map script_of first ++ map script_of later ≡ lines_of bytes =
    sym (map-append script_of first later)
    ∙ ap (map script_of) (take-append-drop b.count (lines bytes)) in
    let legal = legal_all empty_script (map script_of first) b.last b.whole begun_legal b.tells in
    let rest = can_say_all (λ k. false) b.last (map script_of later) legal in
    let says =
    subst (λ ls. AnswersLines empty_script ls rest.0 (b.whole ++ rest.1)) all_lines
    (says_join empty_script (map script_of first) b.last b.whole (map script_of later) rest.0 rest.1
    b.tells (said_all (λ k. false) b.last (map script_of later) rest.0 rest.1 rest.2)) in
    let all = met_all empty_script (lines_of bytes) rest.0 (b.whole ++ rest.1) says in
    record {
      wanted = all.0;
      last = rest.0;
      whole = b.whole ++ rest.1;
      says = all.1;
      begins = (
        b.begins.0 ++ rest.1,
        sym (append_assoc text b.begins.0 rest.1) ∙ ap (λ t. t ++ rest.1) b.begins.1,
      );
    }
