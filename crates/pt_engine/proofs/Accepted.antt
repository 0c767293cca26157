-- What is written for an event: it is refused or accepted.
use Rattle.std.proofs.Common.{◌≡◌, ℕ, suc, ◌-◌, ◌<◌, Bool, true, false, cond, List, [], ◌∷◌, ◌++◌}
use Rattle.std.proofs.Common.{length, take, drop, Option, Some, None, nat_eq, refl, sym, ap, subst}
use Rattle.std.proofs.Common.{◌∙◌, append_assoc, arith}
use Rattle.std.proofs.Math.Seq.{take-append_seam, drop-append_seam}
use Rattle.std.specs.Option.{option_or, MatchOption}
use Rattle.std.proofs.lemmas.Bool.Decides.{Decides-eqb}
use Rattle.std.proofs.lemmas.Slice.Eq.{bytes_eq-Decides}
use Rattle.pt_types.specs.declared.outcome.Refusal.{Refusal}
use Rattle.pt_grammar.specs.declared.client.Who.{Who}
use Rattle.pt_grammar.specs.declared.client.Who.TheVariants.{Named, Star, Unknown}
use Rattle.pt_model.specs.declared.entry.Entry.{Entry}
use Rattle.pt_model.specs.declared.entry.Event.{Event}
use Rattle.pt_model.specs.declared.entry.Event.TheVariants as event
use Rattle.pt_model.specs.Starts.{Start}
use Rattle.pt_model.specs.Histories.{history_since, place}
use Rattle.pt_model.specs.Answers.{replies_from}
use Rattle.pt_model.specs.Queries.{answers_since}
use Rattle.pt_model.specs.Room.{refusal_with_seals, entry_for}
use Rattle.pt_model.proofs.Histories.{place-history_since}
use Rattle.pt_legal.specs.declared.applied.Applied.{Applied}
use Rattle.pt_legal.specs.Cores.{CoreState, history_of}
use Rattle.pt_legal.specs.Applying.{IsApplied, IsRefusal, IsOutOfMemory, IsEventWritten}
use Rattle.pt_legal.specs.Applying.{core_for_event}
use Rattle.pt_engine.specs.declared.line_id.LineId.{LineId}
use Rattle.pt_engine.specs.declared.mark.Mark.{Mark}
use Rattle.pt_engine.specs.declared.mark.Mark.TheVariants as mark
use Rattle.pt_engine.specs.Scripts.{Script, line_at, replies_text, refusal_text, greeting}
use Rattle.pt_engine.specs.Scripts.{clients_with, calls_with, same_who, lines_of_who}
use Rattle.pt_engine.specs.Scripts.{entries_between_seals}
use Rattle.pt_engine.specs.LineAnswers.{AnswersEvent, refuses, lacks, accepts}
use Rattle.pt_engine.specs.Names.{NamesView}
use Rattle.pt_engine.specs.Engines.{Appends, IsFresh, mark_of, clients_marked, calls_marked}
use Rattle.pt_engine.specs.Engines.{greeting_marked}
use Rattle.pt_engine.proofs.Counted.{lookup_push, count_by_push}
use Rattle.pt_engine.proofs.Opened.{limit_opened, place_opened}

-- what an engine with these parts is seen as
abbrev pub seen_as : CoreState → NamesView → List (ℕ × LineId) → Script
seen_as core names calls = record {
  start = core.start;
  entries = core.entries;
  seen = names.seen;
  clients = names.clients;
  calls = calls;
}

clients_as : (v : Event) (who : Who) (place : ℕ) (rows : List (List ℕ × ℕ))
    → clients_marked (mark_of v) who place rows ≡ clients_with v who place rows
clients_as (event.Join p) who place rows = refl
clients_as (event.Call c call) who place rows = refl
clients_as (event.Death c) who place rows = refl
clients_as (event.Moment clock t) who place rows = refl

pub calls_as : (v : Event) (line : LineId) (place : ℕ) (rows : List (ℕ × LineId))
    → calls_marked (mark_of v) line place rows ≡ calls_with v line place rows
calls_as (event.Join p) line place rows = refl
calls_as (event.Call c call) line place rows = refl
calls_as (event.Death c) line place rows = refl
calls_as (event.Moment clock t) line place rows = refl

greeting_as : (v : Event) (line : LineId) → greeting_marked (mark_of v) line ≡ greeting v line
greeting_as (event.Join p) line = refl
greeting_as (event.Call c call) line = refl
greeting_as (event.Death c) line = refl
greeting_as (event.Moment clock t) line = refl

-- the answers from the first new place on are those of the new entries
answers_added : (core : CoreState) (added : List Entry) (first : ℕ) → first
    ≡ place (history_of core)
    → answers_since core.start first (core.entries ++ added) ≡ replies_from (history_of core) added
answers_added core added first is =
    ap (λ n. replies_from (history_since core.start (take n all)) (drop n all)) gap
    ∙ ap (λ es. replies_from (history_since core.start es) (drop (length core.entries) all))
    (take-append_seam core.entries added)
    ∙ ap (replies_from (history_of core)) (drop-append_seam core.entries added)
  where
    all : List Entry
    all = core.entries ++ added

    gap : first - core.start.at ≡ length core.entries
    gap = omega (arith, is, place-history_since core.start core.entries)

-- the answers of an accepted event are those of its entries
pub answers_are : (core next : CoreState) (v : Event) (a : Applied)
    (applied : IsEventWritten core v next a)
    → answers_since next.start a.first next.entries
    ≡ replies_from (history_of core) (entry_for (history_of core) v ∷ applied.writes.extends.0)
answers_are core next v a applied =
    ap (λ (s : Start). answers_since s a.first next.entries) applied.writes.starts
    ∙ ap (answers_since core.start a.first) applied.writes.extends.1
    ∙ answers_added core (entry_for (history_of core) v ∷ applied.writes.extends.0) a.first
    applied.first

-- the same core with a script's limit
abbrev pub full : CoreState → CoreState
full core = record core { limit = entries_between_seals }

limited : (core : CoreState) → core.limit ≡ entries_between_seals → core ≡ full core
limited core is = ap (λ n. let k : CoreState = record core { limit = n } in k) is

-- applying an event leaves the limit unchanged
pub limit_next : (core next : CoreState) (v : Event) (a : Applied) → core.limit
    ≡ entries_between_seals
    → IsApplied core v next a → next.limit ≡ entries_between_seals
limit_next core next v a is done =
    done.written.writes.same_limit ∙ limit_opened core v ∙ is

applied_full : (core next : CoreState) (v : Event) (a : Applied) → core.limit
    ≡ entries_between_seals
    → IsApplied core v next a → IsApplied (full core) v (full next) a
applied_full core next v a is done =
    let from = subst (λ k. IsApplied k v next a) (limited core is) done in
    subst (λ k. IsApplied (full core) v k a)
    (limited next (limit_next core next v a is done)) from

-- the place of its entry is the next one, whether the core is sealed or not
pub place_first : (core next : CoreState) (v : Event) (a : Applied)
    → IsApplied core v next a → a.first ≡ place (history_of core)
place_first core next v a done = done.written.first ∙ place_opened core v

-- an accepted event: its parts were noted, and its answers appended
pub accepted : (s : Script) (core next : CoreState) (names known : NamesView)
    (calls noted : List (ℕ × LineId)) (v : Event) (line : LineId) (a : Applied) (m : Mark)
    (out greeted told : List ℕ)
    → s ≡ seen_as core names calls → core.limit ≡ entries_between_seals → m ≡ mark_of v
    → IsApplied core v next a
    → known ≡ record names { clients = clients_marked m line.who a.first names.clients }
    → noted ≡ calls_marked m line a.first calls
    → greeted ≡ out ++ greeting_marked m line
    → told ≡ greeted ++ replies_text noted (answers_since next.start a.first next.entries)
    → Appends (AnswersEvent s v line (seen_as next known noted)) out told
accepted s core next names known calls noted v line a m out greeted told is whole marks applies
    knows notes greets tells =
    subst (λ t. Appends (AnswersEvent t v line (seen_as next known noted)) out told) (sym is)
    (record {
      text = greeting_marked m line ++ answers;
      grows =
          tells
          ∙ ap (λ ts. greeted ++ replies_text noted ts)
          (answers_are begins (full next) v a done.written)
          ∙ ap (λ xs. xs ++ answers) greets
          ∙ append_assoc out (greeting_marked m line) answers;
      holds = accepts (record {
        accepted = done.accepted;
        writes = done.written.writes;
        added = added;
        extends = done.written.writes.extends.1;
        seen = ap (λ k. k.seen) knows;
        clients =
            ap (λ k. k.clients) knows
            ∙ ap (λ n. clients_marked n line.who a.first names.clients) marks
            ∙ ap (λ n. clients_marked (mark_of v) line.who n names.clients) here
            ∙ clients_as v line.who (place (history_of core)) names.clients;
        calls =
            notes
            ∙ ap (λ n. calls_marked n line a.first calls) marks
            ∙ ap (λ n. calls_marked (mark_of v) line n calls) here
            ∙ calls_as v line (place (history_of core)) calls;
        written =
            ap (λ n. greeting_marked n line ++ answers) marks
            ∙ ap (λ g. g ++ answers) (greeting_as v line);
      });
    })
  where
    begins : CoreState
    begins = core_for_event (full core) v

    done : IsApplied (full core) v (full next) a
    done = applied_full core next v a whole applies

    here : a.first ≡ place (history_of core)
    here = place_first core next v a applies

    added : List Entry
    added = entry_for (history_of begins) v ∷ done.written.writes.extends.0

    answers : List ℕ
    answers = replies_text noted (replies_from (history_of begins) added)

-- a refused event: its refusal was appended, and nothing else changed
pub refused : (s : Script) (core next : CoreState) (names : NamesView)
    (calls noted : List (ℕ × LineId)) (v : Event) (line : LineId) (why : Refusal)
    (out told : List ℕ)
    → s ≡ seen_as core names calls → core.limit ≡ entries_between_seals → next ≡ core
    → noted ≡ calls → IsRefusal core v why → told ≡ out ++ refusal_text line why
    → Appends (AnswersEvent s v line (seen_as next names noted)) out told
refused s core next names calls noted v line why out told is whole stays kept refuses_it tells =
    subst (λ t. Appends (AnswersEvent t v line (seen_as next names noted)) out told) (sym is)
    (record {
      text = refusal_text line why;
      grows = tells;
      holds = by (refusal_with_seals entries_between_seals (history_of core) v) refl
          (subst (λ k. IsRefusal k v why) (limited core whole) refuses_it);
    })
  where
    same : seen_as next names noted ≡ seen_as core names calls
    same = ap (λ k. seen_as k names noted) stays ∙ ap (λ cs. seen_as core names cs) kept

    by : (r : Option Refusal) → refusal_with_seals entries_between_seals (history_of core) v ≡ r
        → MatchOption r (IsOutOfMemory v why) (λ x. why ≡ x)
        → AnswersEvent (seen_as core names calls) v line (seen_as next names noted)
        (refusal_text line why)
    by None none lock_kind = lacks (record {
      accepted = none;
      lives = lock_kind.1;
      same = same;
      written = ap (refusal_text line) lock_kind.0;
    })
    by (Some x) some is_it = refuses (record {
      why = x;
      refused = some;
      same = same;
      written = ap (refusal_text line) is_it;
    })

-- no call is noted at a later place, even after an accepted event
pub fresh_noted : (calls noted : List (ℕ × LineId)) (m : Mark) (line : LineId) (place next : ℕ)
    → IsFresh calls place → place < next → noted ≡ calls_marked m line place calls
    → IsFresh noted next
fresh_noted calls noted m line place next fresh below notes = λ j far.
    ap (λ cs. line_at cs j) notes ∙ by m j (fresh j (omega arith)) (apart j (omega arith))
  where
    apart : (j : ℕ) → place < j → nat_eq j place ≡ false
    apart j above = tells (nat_eq j place) (Decides-eqb j place).0
      where
        tells : (b : Bool) → (b ≡ true → j ≡ place) → b ≡ false
        tells true same = absurd (omega (arith, same refl))
        tells false same = refl

    by : (n : Mark) (j : ℕ) → line_at calls j ≡ None → nat_eq j place ≡ false
        → line_at (calls_marked n line place calls) j ≡ None
    by mark.Client j none other = none
    by (mark.Call c) j none other =
        lookup_push (nat_eq j) calls place line
        ∙ ap (λ o. option_or o (cond (nat_eq j place) (Some line) None)) none
        ∙ ap (λ b. cond b (Some line) None) other
    by mark.Nothing j none other = none

same_as_itself : (who : Who) → same_who who who ≡ true
same_as_itself (Named name) = (bytes_eq-Decides name name).1 refl
same_as_itself Star = refl
same_as_itself Unknown = refl

-- after a line is counted, its client has at least one line
pub some_seen : (seen : List Who) (who : Who) → 0 < lines_of_who (seen ++ who ∷ []) who
some_seen seen who =
    let count = count_by_push (λ w. same_who w who) seen who
    ∙ ap (λ b. cond b (suc (lines_of_who seen who)) (lines_of_who seen who)) (same_as_itself who) in
    omega (arith, count)
