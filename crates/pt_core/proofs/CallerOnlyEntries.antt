-- CallerOnlyEntries: an event's entry answers the event's own call, if it has an answer, and no other.
use Rattle.std.proofs.Common.{◌≡◌, List, [], ◌∷◌, ◌++◌, ◌-◌, Option, Some, None, refl, sym, ap, ◌∙◌}
use Rattle.std.proofs.Common.{arith, drop, length, take}
use Rattle.std.proofs.Math.Seq.{take-append_seam, drop-append_seam}
use Rattle.pt_types.specs.declared.outcome.Outcome.{Outcome}
use Rattle.pt_types.specs.Tables.{reply}
use Rattle.pt_model.specs.declared.entry.Entry.{Entry}
use Rattle.pt_model.specs.declared.entry.Entry.TheVariants.{Call}
use Rattle.pt_model.specs.declared.entry.Event.{Event}
use Rattle.pt_model.specs.declared.entry.Event.TheVariants as event
use Rattle.pt_model.specs.Answers.{outcome, replies_from, entry_replies}
use Rattle.pt_model.specs.Histories.{History, ◌▷◌, history_since, place}
use Rattle.pt_model.specs.Queries.{answers_since}
use Rattle.pt_model.specs.Room.{entry_for}
use Rattle.pt_model.specs.StartRows.{start_of_rows}
use Rattle.pt_model.specs.Steps.{Follows}
use Rattle.pt_model.specs.Verdicts.{verdict}
use Rattle.pt_model.proofs.Sound.{Fresh-follows}
use Rattle.pt_history.specs.Stored.{Stored, stored_history}
use Rattle.pt_history.proofs.Places.{place_of_next}
use Rattle.pt_state.specs.declared.state.State.{State}
use Rattle.pt_state.specs.Adds.{Adds, history_of, store_with_entry}
use Rattle.pt_legal.specs.Applying.{own_replies, outcome_at_once}
use Rattle.pt_core.specs.Settling.{AnswersOnlyCaller}
use Rattle.pt_core.proofs.AnswersStay.{entry_replies-called}
use Rattle.pt_core.proofs.ValidStateLemmas.{history_of-added}

-- the answers of one entry that was added
answers-one : (old new : Stored) (e : Entry) → new ≡ store_with_entry old e
    → answers_since (start_of_rows new.start) (place (stored_history old)) new.entries
    ≡ entry_replies (stored_history old) e ++ []
answers-one old new e is =
    ap (λ (s : Stored). answers_since (start_of_rows s.start) (place
    (stored_history old)) s.entries) is
    ∙ (ap (λ n. replies_from (history_since (start_of_rows old.start) (take n all))
    (drop n all)) gap
    ∙ (ap (λ es. replies_from (history_since (start_of_rows old.start) es) (drop
    (length old.entries) all))
    (take-append_seam old.entries (e ∷ []))
    ∙ ap (replies_from (stored_history old)) (drop-append_seam old.entries (e ∷ []))))
  where
    all : List Entry
    all = old.entries ++ e ∷ []

    gap : place (stored_history old) - old.start.at ≡ length old.entries
    gap = omega (arith, place_of_next old)

-- they are the answer of its own call, if it has one
own : (h : History) → Follows h → (v : Event) → entry_replies h (entry_for h v) ++ []
    ≡ own_replies v (place h) (outcome_at_once v (h ▷ entry_for h v) (place h))
own h f (event.Call c call) = go (reply (verdict h c call))
  where
    go : (r : Option Outcome) → entry_replies h (Call c call r) ++ []
        ≡ own_replies (event.Call c call) (place h) (outcome (h ▷ Call c call r) (place h))
    go (Some x) = ap (own_replies (event.Call c call) (place h)) (sym
        (entry_replies-called h c call x))
    go None =
        ap (own_replies (event.Call c call) (place h))
        (sym ((Fresh-follows h f).answers (place h) (omega arith)))
own h f (event.Join p) = refl
own h f (event.Death c) = refl
own h f (event.Moment k t) = refl

module _ {A : Type 0} where
  pub alone-entry : (s t : State A) (v : Event) → Follows (history_of s)
      → Adds s (entry_for (history_of s) v) t → AnswersOnlyCaller t.stored v (place (history_of s))
  alone-entry s t v f a =
      answers-one s.stored t.stored (entry_for (history_of s) v) a.stored
      ∙ (own (history_of s) f v
      ∙ ap (λ h. own_replies v (place (history_of s)) (outcome_at_once v h (place (history_of s))))
      (sym (history_of-added s t (entry_for (history_of s) v) a)))
