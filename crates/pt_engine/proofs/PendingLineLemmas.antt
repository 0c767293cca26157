-- Each answer of an event is under the event's own line, or under the line that is stored for its
-- client, since it answers the event's own call or one that waits.
use Rattle.std.proofs.Common.{◌≡◌, ℕ, ◌<◌, List, [], ◌∷◌, ◌++◌}
use Rattle.std.proofs.Common.{refl, sym, ap, ◌∙◌, subst, arith}
use Rattle.pt_model.specs.declared.entry.Entry.{Entry}
use Rattle.pt_model.specs.declared.entry.Event.{Event}
use Rattle.pt_model.specs.Searches.{Each}
use Rattle.pt_model.specs.Starts.{Start, empty_start}
use Rattle.pt_model.specs.Histories.{History, Begin, ◌▷◌, append_entries, history_since, place}
use Rattle.pt_model.specs.Answers.{replies_from}
use Rattle.pt_model.specs.Queries.{answers_since}
use Rattle.pt_model.specs.Legal.{events_of}
use Rattle.pt_model.specs.Room.{entry_for}
use Rattle.pt_model.specs.Seals.{seal}
use Rattle.pt_model.specs.Steps.{Follows, begins}
use Rattle.pt_model.proofs.Histories.{follows-part}
use Rattle.pt_model.proofs.Lists.{Each-weaker}
use Rattle.pt_model.proofs.Opens.{open-sealed}
use Rattle.pt_client_events.proofs.EventTallies.{place-more}
use Rattle.pt_legal.specs.declared.applied.Applied.{Applied}
use Rattle.pt_legal.specs.Cores.{CoreState, history_of}
use Rattle.pt_legal.specs.Applying.{IsApplied, IsEventWritten, core_for_event, outcome_at_once}
use Rattle.pt_engine.specs.declared.line_id.LineId.{LineId}
use Rattle.pt_engine.specs.declared.mark.Mark.{Mark}
use Rattle.pt_engine.specs.Scripts.{calls_with, entries_between_seals, replies_text}
use Rattle.pt_engine.specs.Engines.{AreLines, StoresPendingLine, IsLegal, IsLineOf, IsSound}
use Rattle.pt_engine.specs.Engines.{calls_marked}
use Rattle.pt_engine.specs.Engines.{latest_text, mark_of, own_first}
use Rattle.pt_engine.proofs.Accepted.{answers_are, calls_as, fresh_noted, limit_next}
use Rattle.pt_engine.proofs.Answered.{IsOfCall}
use Rattle.pt_engine.proofs.Later.{IsForOpen, event_each}
use Rattle.pt_engine.proofs.Waiting.{HasLine, answered_has, open_has, own_same, stored_line}
use Rattle.pt_engine.proofs.Followers.{none_forced}
use Rattle.pt_engine.proofs.Opened.{goes_on, legal_follow, legal_next, legal_opened, longer}
use Rattle.pt_engine.proofs.Opened.{opened_by, same_start}
use Rattle.pt_engine.proofs.Texts.{same_text}

-- what contracts see of a core before the first line
abbrev empty : CoreState
empty = record { start = empty_start; entries = []; limit = entries_between_seals }

pub begun_sound : (core : CoreState) → core ≡ empty → IsSound core
begun_sound core is =
    subst IsSound (sym is)
    (record { limit = refl; legal = record { starts = begins; legal = (refl, refl) } })

pub begun_lines : (core : CoreState) (asked calls : List (ℕ × LineId)) → core ≡ empty → asked ≡ []
    → calls ≡ [] → AreLines asked calls (history_of core)
begun_lines core asked calls is none noted =
    subst (λ k. AreLines asked calls (history_of k)) (sym is)
    (rw (none, noted) (record { fresh = λ j far. refl; stored = λ w i. absurd i }))

-- the open calls of a seal were open before it
lines_sealed : (asked calls : List (ℕ × LineId)) (h : History) → AreLines asked calls h
    → AreLines asked calls (Begin (seal h))
lines_sealed asked calls h are = record {
  fresh = are.fresh;
  stored = λ w i. are.stored w (open-sealed h w i);
}

lines_opened : (asked calls : List (ℕ × LineId)) (core : CoreState) (v : Event)
    → AreLines asked calls (history_of core)
    → AreLines asked calls (history_of (core_for_event core v))
lines_opened asked calls core v are =
    opened_by (λ k. AreLines asked calls (history_of k)) core v (λ e. are)
    (λ e. lines_sealed asked calls (history_of core) are)

-- an event that is applied to a core; if the event needs a seal, the core is already sealed
module _ (core next : CoreState) (v : Event) (a : Applied) (l : IsLegal core)
    (applied : IsEventWritten core v next a) where
  abbrev h : History
  h = history_of core

  abbrev x : Entry
  x = entry_for (history_of core) v

  abbrev fs : List Entry
  fs = applied.writes.extends.0

  whole : history_of next ≡ append_entries (h ▷ x) fs
  whole = longer core next v applied.writes

  none : events_of fs ≡ []
  none =
      none_forced core.start core.entries next.entries fs v applied.writes.extends.1
      (same_start core next v applied.writes)

  follows : Follows (append_entries (h ▷ x) fs)
  follows =
      subst Follows whole (legal_follow next (legal_next core next v applied.writes l))

  before : Follows (h ▷ x)
  before = follows-part (h ▷ x) fs follows

  below : place h < place (history_of next)
  below =
      let more = place-more core.start core.entries v next.entries
      (goes_on core next v applied.writes l) in
      let same = ap (λ (s : Start). place (history_since s next.entries)) applied.writes.starts in
      omega (arith, more, same)

  -- each call that is answered or stays open has its line
  have_lines : (asked calls : List (ℕ × LineId)) (line : LineId) → AreLines asked calls h
      → Each (IsOfCall (HasLine h v line asked calls)) (replies_from h (x ∷ fs))
      × IsForOpen (HasLine h v line asked calls) (history_of next)
  have_lines asked calls line are =
      let has = HasLine h v line asked calls in
      subst (λ g. Each (IsOfCall has) (replies_from h (x ∷ fs)) × IsForOpen has g) (sym whole)
      (event_each has h x fs none follows (answered_has h line asked calls are v before.1)
      (open_has h line asked calls are v before.0 before.1))

  lines_after : (asked stored calls noted : List (ℕ × LineId)) (line : LineId)
      → AreLines asked calls h → StoresPendingLine a.outcome (mark_of v) line asked stored
      → noted ≡ calls_with v line (place h) calls → AreLines stored noted (history_of next)
  lines_after asked stored calls noted line are sets notes = record {
    fresh =
        fresh_noted calls noted (mark_of v) line (place h) (place (history_of next)) are.fresh below
        (notes ∙ sym (calls_as v line (place h) calls));
    stored = λ w i.
        subst (λ rows. IsLineOf stored rows w.client w.place) (sym notes)
        (stored_line a.outcome h (history_of next) v line asked stored calls w
        (applied.replies ∙ ap (outcome_at_once v (history_of next)) applied.first) sets i
        ((have_lines asked calls line are).1 w i));
  }

  answers_alike : (asked stored calls noted : List (ℕ × LineId)) (line : LineId)
      → AreLines asked calls h → StoresPendingLine a.outcome (mark_of v) line asked stored
      → noted ≡ calls_with v line (place h) calls
      → latest_text (own_first (mark_of v) line stored)
      (answers_since next.start a.first next.entries)
      ≡ replies_text noted (answers_since next.start a.first next.entries)
  answers_alike asked stored calls noted line are sets notes =
      let own = own_first (mark_of v) line stored in
      same_text own noted (answers_since next.start a.first next.entries)
      (subst (Each (λ t. IsLineOf own noted t.client t.place))
      (sym (answers_are core next v a applied))
      (Each-weaker (IsOfCall (HasLine h v line asked calls))
      (λ t. IsLineOf own noted t.client t.place)
      (λ t has.
      subst (λ rows. IsLineOf own rows t.client t.place) (sym notes) (
        has.0.0,
        (own_same a.outcome v line asked stored sets t.client ∙ has.0.1.0, has.0.1.1),
      ))
      (replies_from h (x ∷ fs)) (have_lines asked calls line are).0))

-- an event that is accepted by a core, and whose line is noted and stored
module _ (core next : CoreState) (v : Event) (a : Applied) (is : IsSound core)
    (done : IsApplied core v next a) (asked stored calls noted : List (ℕ × LineId))
    (line : LineId) (m : Mark) (are : AreLines asked calls (history_of core)) (marks : m
    ≡ mark_of v)
    (sets : StoresPendingLine a.outcome m line asked stored)
    (notes : noted ≡ calls_marked m line a.first calls) where
  legal : IsLegal (core_for_event core v)
  legal = legal_opened core is.legal v

  opens : AreLines asked calls (history_of (core_for_event core v))
  opens = lines_opened asked calls core v are

  asks : StoresPendingLine a.outcome (mark_of v) line asked stored
  asks = subst (λ n. StoresPendingLine a.outcome n line asked stored) marks sets

  all : noted ≡ calls_with v line (place (history_of (core_for_event core v))) calls
  all =
      notes
      ∙ ap (λ n. calls_marked n line a.first calls) marks
      ∙ ap (λ n. calls_marked (mark_of v) line n calls) done.written.first
      ∙ calls_as v line (place (history_of (core_for_event core v))) calls

  -- what stays true of the core and the lines
  pub kept_lines : IsSound next × AreLines stored noted (history_of next)
  kept_lines = (
    record {
      limit = limit_next core next v a is.limit done;
      legal = legal_next (core_for_event core v) next v done.written.writes legal;
    },
    lines_after (core_for_event core v) next v a legal done.written asked stored calls noted line
        opens
        asks all,
  )

  -- the answers were appended under the lines of their calls
  pub told_alike : (out told : List ℕ)
      → told ≡ out ++ latest_text (own_first m line stored)
      (answers_since next.start a.first next.entries)
      → told ≡ out ++ replies_text noted (answers_since next.start a.first next.entries)
  told_alike out told tells =
      tells
      ∙ ap (λ n. out ++ latest_text (own_first n line stored)
      (answers_since next.start a.first next.entries)) marks
      ∙ ap (λ text. out ++ text)
      (answers_alike (core_for_event core v) next v a legal done.written asked stored calls noted
      line
      opens asks all)
