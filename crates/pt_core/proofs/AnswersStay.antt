-- The answer of a call's own entry is still the call's answer after the forced entries.
use Rattle.std.proofs.Common.{◌≡◌, ℕ, suc, ◌+◌, ◌==◌, List, [], ◌∷◌, Option, Some, None, is_some}
use Rattle.std.proofs.Common.{true, length, refl, sym, ap, ◌∙◌, subst, arith, append_assoc}
use Rattle.std.proofs.lemmas.Bool.Decides.{nat_tests}
use Rattle.std.specs.Option.{option_or}
use Rattle.pt_types.specs.declared.outcome.Outcome.{Outcome}
use Rattle.pt_model.specs.declared.entry.Entry.{Entry}
use Rattle.pt_model.specs.declared.entry.Entry.TheVariants.{Call}
use Rattle.pt_model.specs.declared.entry.Event.{Event}
use Rattle.pt_model.specs.declared.entry.Event.TheVariants as event
use Rattle.pt_model.specs.Histories.{History, Begin, ◌▷◌, append_entries, place}
use Rattle.pt_model.specs.Answers.{outcome, outcome_in, entry_replies}
use Rattle.pt_model.specs.Room.{refusal, entry_for}
use Rattle.pt_model.specs.StartRows.{StartRows, start_of_rows}
use Rattle.pt_model.specs.Steps.{Step, Follows}
use Rattle.pt_model.proofs.Histories.{append_entries-append, place-append_entries}
use Rattle.pt_model.proofs.Once.{answers-unanswered}
use Rattle.pt_model.proofs.Sound.{Fresh-follows}
use Rattle.pt_model.proofs.Steps.{step-forced}
use Rattle.pt_history.specs.Stored.{Stored, stored_history}
use Rattle.pt_history.proofs.Places.{past-pushed, place_of_next}
use Rattle.pt_machine.specs.Plans.{entry_with}
use Rattle.pt_legal.specs.Applying.{KeepsOutcome}
use Rattle.pt_core.specs.Settling.{Enters, Forces, IsRoomReady, IsSettling}
use Rattle.pt_core.proofs.SettlingLemmas.{ready-follows}

-- a call still has its answer after one more entry
entry_replies-step : (h : History) (e : Entry) (j : ℕ) (x : Outcome) → Follows h → Step h e
    → outcome h j ≡ Some x → outcome (h ▷ e) j ≡ Some x
entry_replies-step h e j x f s is = go (outcome_in (entry_replies h e) j)
    (answers-unanswered h e j f s)
  where
    go : (o : Option Outcome) → (is_some o ≡ true → outcome h j ≡ None)
        → option_or o (outcome h j) ≡ Some x
    go None fresh = is
    go (Some y) fresh = absurd (let no = sym is ∙ fresh refl in cc)

-- and after the forced entries
pub entry_replies-kept : (h : History) (fs : List Entry) (j : ℕ) (x : Outcome) → Follows h
    → Forces h fs
    → outcome h j ≡ Some x → outcome (append_entries h fs) j ≡ Some x
entry_replies-kept h [] j x f a is = is
entry_replies-kept h (e ∷ fs) j x f a is =
    let s = step-forced h e a.0 in
    entry_replies-kept (h ▷ e) fs j x (f, s) a.1 (entry_replies-step h e j x f s is)

-- a call's own entry gives its answer
pub entry_replies-called : (h : History) (c : ℕ) (call : _) (x : Outcome)
    → outcome (h ▷ Call c call (Some x)) (place h) ≡ Some x
entry_replies-called h c call x =
    let there : (place h == place h) ≡ true = grind (arith, nat_tests) in rw there refl

-- a list of length 0 is empty
empty : (fs : List Entry) → length fs ≡ 0 → fs ≡ []
empty [] e = refl
empty (f ∷ fs) e = absurd (omega arith)

module _ (old new : Stored) (v : Event) (r : IsRoomReady old v) (ok : refusal (stored_history old) v
    ≡ None)
    (e : Enters old v new) where
  entered_past : stored_history new
      ≡ append_entries (stored_history old ▷ entry_for (stored_history old) v) e.added.0
  entered_past =
      ap (λ (s : StartRows). append_entries (Begin (start_of_rows s)) new.entries) e.same_start
      ∙ (ap (append_entries (Begin (start_of_rows old.start))) (e.added.1
      ∙ append_assoc old.entries (entry_for (stored_history old) v ∷ []) e.added.0)
      ∙ append_entries-append (Begin (start_of_rows old.start)) old.entries
      (entry_for (stored_history old) v ∷ e.added.0))

  entered_follows : Follows (stored_history old ▷ entry_for (stored_history old) v)
  entered_follows =
      subst Follows (past-pushed old (entry_for (stored_history old) v)) (ready-follows old v r ok)

  pub entry_replies-still : (answer : Option Outcome) (first : ℕ)
      → entry_with (stored_history old) v answer ≡ entry_for (stored_history old) v
      → first ≡ old.start.at + length old.entries → KeepsOutcome v answer (stored_history new) first
  entry_replies-still answer first is at = go v answer is
    where
      at_place : first ≡ place (stored_history old)
      at_place = at ∙ sym (place_of_next old)

      go : (u : Event) (a : Option Outcome)
          → entry_with (stored_history old) u a ≡ entry_for (stored_history old) v
          → KeepsOutcome u a (stored_history new) first
      go (event.Call c call) (Some x) same =
          ap (λ j. outcome (stored_history new) j) at_place
          ∙ (ap (λ (h : History). outcome h (place (stored_history old))) entered_past
          ∙ entry_replies-kept (stored_history old ▷ entry_for (stored_history old) v) e.added.0
          (place (stored_history old)) x
          entered_follows e.added.2
          (subst (λ (n : Entry). outcome (stored_history old ▷ n) (place (stored_history old))
          ≡ Some x) same
          (entry_replies-called (stored_history old) c call x)))
      go (event.Call c call) None same = λ at.
          let long : suc (place (stored_history old)) + length e.added.0 ≡ suc first =
          sym (place-append_entries (stored_history old ▷ entry_for
          (stored_history old) v) e.added.0)
          ∙ (sym (ap place entered_past) ∙ at) in
          let none : e.added.0 ≡ [] = empty e.added.0 (omega (arith, long, at_place)) in
          ap (λ j. outcome (stored_history new) j) at_place
          ∙ (ap (λ (h : History). outcome h (place (stored_history old)))
          (entered_past ∙ ap (append_entries (stored_history old ▷ entry_for
          (stored_history old) v)) none)
          ∙ subst (λ (n : Entry). outcome (stored_history old ▷ n) (place (stored_history old))
          ≡ None) same
          ((Fresh-follows (stored_history old) entered_follows.0).answers (place
          (stored_history old))
          (omega arith)))
      go (event.Join p) a same = tt
      go (event.Death c) a same = tt
      go (event.Moment k t) a same = tt

-- a call that was granted as it came also still has its answer
pub entry_replies-settled : (now u : Stored) (j : ℕ) (x : Outcome) → Follows (stored_history now)
    → IsSettling now u → outcome (stored_history now) j ≡ Some x → outcome (stored_history u) j
    ≡ Some x
entry_replies-settled now u j x f s is =
    ap (λ (h : History). outcome h j)
    (ap (λ (r : StartRows). append_entries (Begin (start_of_rows r)) u.entries) s.same_start
    ∙ (ap (append_entries (Begin (start_of_rows now.start))) s.added.1
    ∙ append_entries-append (Begin (start_of_rows now.start)) now.entries s.added.0))
    ∙ entry_replies-kept (stored_history now) s.added.0 j x f s.added.2 is
