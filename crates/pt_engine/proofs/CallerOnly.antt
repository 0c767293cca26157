-- An event that no entry follows answers its own call, or none.
use Rattle.std.proofs.Common.{◌≡◌, ℕ, ◌+◌, cond, List, [], ◌∷◌, ◌++◌, length, Option}
use Rattle.std.proofs.Common.{Some, None, true, refl, sym, ap, ◌∙◌, arith, eq-eqb, append-nil}
use Rattle.std.specs.Option.{option_or}
use Rattle.pt_types.specs.declared.outcome.Outcome.{Outcome}
use Rattle.pt_types.specs.Tables.{reply}
use Rattle.pt_model.specs.declared.entry.Entry.{Entry}
use Rattle.pt_model.specs.declared.entry.Entry.TheVariants as entry
use Rattle.pt_model.specs.declared.entry.Event.{Event}
use Rattle.pt_model.specs.declared.entry.Event.TheVariants as event
use Rattle.pt_model.specs.Histories.{History, ◌▷◌, append_entries, place}
use Rattle.pt_model.specs.Records.{ReplyView}
use Rattle.pt_model.specs.Answers.{outcome, replies_from}
use Rattle.pt_model.specs.Queries.{answers_since}
use Rattle.pt_model.specs.Room.{entry_for}
use Rattle.pt_model.specs.Steps.{Follows}
use Rattle.pt_model.specs.Verdicts.{verdict}
use Rattle.pt_model.proofs.Histories.{place-append_entries}
use Rattle.pt_model.proofs.Sound.{Fresh-follows}
use Rattle.pt_legal.specs.declared.applied.Applied.{Applied}
use Rattle.pt_legal.specs.Cores.{CoreState, history_of}
use Rattle.pt_legal.specs.Applying.{IsApplied, IsEventWritten, core_for_event, own_replies}
use Rattle.pt_legal.specs.Applying.{outcome_at_once}
use Rattle.pt_engine.specs.declared.line_id.LineId.{LineId}
use Rattle.pt_engine.specs.declared.mark.Mark.{Mark}
use Rattle.pt_engine.specs.declared.mark.Mark.TheVariants as mark
use Rattle.pt_engine.specs.Scripts.{reply_text}
use Rattle.pt_engine.specs.Engines.{IsLegal, IsSound, latest_line, latest_text, mark_of}
use Rattle.pt_engine.specs.Engines.{own_answers, own_first}
use Rattle.pt_engine.specs.Engines.{own_text}
use Rattle.pt_engine.proofs.Accepted.{answers_are}
use Rattle.pt_engine.proofs.Opened.{legal_follow, legal_opened, longer}

none_left : (es : List Entry) (n : ℕ) → n ≡ n + length es → es ≡ []
none_left [] n same = refl
none_left (e ∷ es) n same = absurd (omega (arith, same))

-- the answers of an event's entry, by the answer that its call then has
told_alone : (h : History) (v : Event) → Follows h
    → replies_from h (entry_for h v ∷ [])
    ≡ own_answers (mark_of v) (place h) (outcome_at_once v (h ▷ entry_for h v) (place h))
told_alone h (event.Join p) f = refl
told_alone h (event.Death c) f = refl
told_alone h (event.Moment k t) f = refl
told_alone h (event.Call c call) f = go (reply (verdict h c call))
  where
    go : (r : Option Outcome)
        → replies_from h (entry.Call c call r ∷ [])
        ≡ own_answers (mark.Call c) (place h) (outcome (h ▷ entry.Call c call r) (place h))
    go None =
        ap (own_answers (mark.Call c) (place h))
        (sym ((Fresh-follows h f).answers (place h) (omega arith)))
    go (Some x) =
        ap (λ b. own_answers (mark.Call c) (place h)
        (option_or (cond b (Some x) None) (outcome h (place h))))
        (sym (eq-eqb (place h) (place h) refl))

written_alone : (core next : CoreState) (v : Event) (a : Applied) → IsLegal core
    → IsEventWritten core v next a → a.last ≡ a.first
    → answers_since next.start a.first next.entries ≡ own_answers (mark_of v) a.first a.outcome
written_alone core next v a l applied same =
    answers_are core next v a applied
    ∙ ap (λ es. replies_from h (x ∷ es)) none
    ∙ told_alone h v (legal_follow core l)
    ∙ ap (λ g. own_answers (mark_of v) (place h) (outcome_at_once v g (place h)))
    (sym (longer core next v applied.writes ∙ ap (append_entries (h ▷ x)) none))
    ∙ ap (λ n. own_answers (mark_of v) n (outcome_at_once v (history_of next) n))
    (sym applied.first)
    ∙ ap (own_answers (mark_of v) a.first) (sym applied.replies)
  where
    h : History
    h = history_of core

    x : Entry
    x = entry_for (history_of core) v

    fs : List Entry
    fs = applied.writes.extends.0

    none : fs ≡ []
    none =
        let after = ap place (longer core next v applied.writes)
        ∙ place-append_entries (h ▷ x) fs in
        let first = applied.first in
        let last = applied.last in
        none_left fs (place h) (omega (arith, after, first, last, same))

-- the answers of an accepted event that no entry follows
pub answers_alone : (core next : CoreState) (v : Event) (a : Applied) (m : Mark) → IsSound core
    → IsApplied core v next a → m ≡ mark_of v → a.last ≡ a.first
    → answers_since next.start a.first next.entries ≡ own_answers m a.first a.outcome
answers_alone core next v a m is done marks same =
    written_alone (core_for_event core v) next v a (legal_opened core is.legal v) done.written same
    ∙ ap (λ n. own_answers n a.first a.outcome) (sym marks)

own_as : (v : Event) (j : ℕ) (x : Option Outcome) → own_replies v j x ≡ own_answers (mark_of v) j x
own_as (event.Call c call) j (Some x) = refl
own_as (event.Call c call) j None = refl
own_as (event.Join p) j x = refl
own_as (event.Death c) j x = refl
own_as (event.Moment k t) j x = refl

-- the answers of an accepted event that is known to have answered only its own call
pub answers_only : (core next : CoreState) (v : Event) (a : Applied) (m : Mark)
    → IsApplied core v next a → m ≡ mark_of v → a.only_caller ≡ true
    → answers_since next.start a.first next.entries ≡ own_answers m a.first a.outcome
answers_only core next v a m done marks only =
    done.written.only_caller only
    ∙ own_as v a.first a.outcome
    ∙ ap (λ n. own_answers n a.first a.outcome) (sym marks)

own_said : (asked : List (ℕ × LineId)) (m : Mark) (line : LineId) (place : ℕ) (o : Option Outcome)
    → own_text m line o ≡ latest_text (own_first m line asked) (own_answers m place o)
own_said asked (mark.Call c) line place (Some x) =
    ap (λ b. reply_text (cond b (Some line) (latest_line asked c)) x) (sym (eq-eqb c c refl))
    ∙ sym (append-nil _)
own_said asked (mark.Call c) line place None = refl
own_said asked mark.Client line place (Some x) = refl
own_said asked mark.Client line place None = refl
own_said asked mark.Nothing line place (Some x) = refl
own_said asked mark.Nothing line place None = refl

-- the event's own answer was appended, and there is no other
pub own_reply_text : (asked : List (ℕ × LineId)) (m : Mark) (line : LineId) (place : ℕ)
    (o : Option Outcome) (answers : List ReplyView) (out told : List ℕ)
    → answers ≡ own_answers m place o → told ≡ out ++ own_text m line o
    → told ≡ out ++ latest_text (own_first m line asked) answers
own_reply_text asked m line place o answers out told are tells =
    tells
    ∙ ap (λ xs. out ++ xs) (own_said asked m line place o)
    ∙ ap (λ ts. out ++ latest_text (own_first m line asked) ts) (sym are)
