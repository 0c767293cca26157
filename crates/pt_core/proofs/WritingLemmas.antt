-- What an accepted event wrote, without a seal.
use Rattle.std.proofs.Common.{◌≡◌, ℕ, ◌+◌, ◌-◌, ◌≤◌, List, [], ◌∷◌, ◌++◌, Option, None, length, sym}
use Rattle.std.proofs.Common.{ap, ◌∙◌, subst, arith, length-append, Bool, true}
use Rattle.pt_types.specs.declared.outcome.Outcome.{Outcome}
use Rattle.pt_model.specs.declared.entry.Entry.{Entry}
use Rattle.pt_model.specs.declared.entry.Event.{Event}
use Rattle.pt_model.specs.Histories.{◌▷◌, place, history_since}
use Rattle.pt_model.specs.Room.{need, refusal, refusal_within, entry_for}
use Rattle.pt_model.specs.Legal.{LegalSince, events_of}
use Rattle.pt_model.specs.Forced.{forced}
use Rattle.pt_model.specs.StartRows.{StartRows, start_of_rows}
use Rattle.pt_history.specs.Stored.{Stored, stored_history}
use Rattle.pt_history.proofs.Places.{place_of_next}
use Rattle.pt_core.specs.Stores.{store_core}
use Rattle.pt_legal.specs.Applying.{AnswersCallerOnly, WritesEvent, IsEventWritten, outcome_at_once}
use Rattle.pt_core.specs.Settling.{Enters, AnswersOnlyCaller, MakesRoom}
use Rattle.pt_core.proofs.AcceptingLemmas.{unrefused-itself, same-past}
use Rattle.pt_core.proofs.SettlingLemmas.{applied-extends, applied-legal}

-- no other call than the event's own is answered, by its place and its answer
pub alone-at : (new : Stored) (v : Event) (first : ℕ) {j : ℕ} → first ≡ j → (x : Option Outcome)
    → x ≡ outcome_at_once v (stored_history new) first → AnswersOnlyCaller new v j
    → AnswersCallerOnly (start_of_rows new.start) new.entries v first x
alone-at new v first ef x ex is =
    subst (AnswersCallerOnly (start_of_rows new.start) new.entries v first) (sym ex)
    (subst (AnswersOnlyCaller new v) (sym ef) is)

-- an entry was added, so there is one
pub entered-some : (old new : Stored) (v : Event) → Enters old v new → (len : ℕ)
    → len ≡ new.start.at + length new.entries → 1 ≤ len
entered-some old new v e len el =
    let more = simp length-append at (ap length e.added.1) in
    omega (arith, more, el)

module _ (old makes_room new : Stored) (v : Event) (m : MakesRoom old v makes_room) (e : Enters makes_room v new)
    (ok : refusal_within old.limit (stored_history old) v ≡ None) where
  made_past : stored_history makes_room ≡ stored_history old
  made_past = same-past old makes_room m.same_start m.same_entries

  accepted : refusal (stored_history makes_room) v ≡ None
  accepted = ap (λ h. refusal h v) made_past ∙ unrefused-itself old.limit (stored_history old) v ok

  quiet : forced (history_since (start_of_rows makes_room.start) new.entries) ≡ None
  quiet =
      ap (λ (r : StartRows). forced (history_since (start_of_rows r) new.entries))
      (sym e.same_start)
      ∙ e.settled

  entered_extends :
      (fs : List Entry) × (new.entries ≡ old.entries ++ entry_for (stored_history old) v ∷ fs)
  entered_extends = (
    e.added.0,
    applied-extends (start_of_rows makes_room.start) m.ready.starts makes_room.entries new.entries v
        m.ready.legal
        accepted e.added.0 e.added.1 e.added.2 quiet
        ∙ (ap (λ es. es ++ entry_for (stored_history makes_room) v ∷ e.added.0) m.same_entries
        ∙ ap (λ h. old.entries ++ entry_for h v ∷ e.added.0) made_past),
  )

  entered_legal : LegalSince (start_of_rows new.start) new.entries (events_of old.entries ++ v ∷ [])
  entered_legal =
      subst (λ (r : StartRows).
      LegalSince (start_of_rows r) new.entries (events_of old.entries ++ v ∷ [])) (sym e.same_start)
      (subst (λ (es : List Entry).
      LegalSince (start_of_rows makes_room.start) new.entries (events_of es ++ v ∷ [])) m.same_entries
      (
      applied-legal (start_of_rows makes_room.start) m.ready.starts makes_room.entries new.entries v
      m.ready.legal
      accepted e.added.0 e.added.1 e.added.2 quiet
      ))

  entered_bounded :
      length new.entries ≤ length old.entries + 1 + need (stored_history old ▷ entry_for
      (stored_history old) v)
  entered_bounded =
      omega (
        arith,
        e.bounded,
        ap length m.same_entries,
        ap (λ h. need (h ▷ entry_for h v)) made_past,
      )

  entered_writes : WritesEvent (store_core old) v (store_core new)
  entered_writes =
      record {
        accepted = ok;
        starts = ap start_of_rows (e.same_start ∙ m.same_start);
        extends = entered_extends;
        legal = entered_legal;
        same_limit = e.same_limit ∙ m.same_limit;
      }

  entered_longer : 1 + length old.entries ≤ length new.entries
  entered_longer =
      let ext = entered_extends in
      omega (
        arith,
        ap length ext.1,
        length-append old.entries (entry_for (stored_history old) v ∷ ext.0),
      )

  pub entered-written : (first len : ℕ) (x : Option Outcome) (at : Option ℕ) (only_caller : Bool)
      → first ≡ makes_room.start.at + length makes_room.entries → len ≡ new.start.at + length new.entries
      → x ≡ outcome_at_once v (stored_history new) first
      → (only_caller ≡ true → AnswersCallerOnly (start_of_rows new.start) new.entries v first x)
      → IsEventWritten (store_core old) v (store_core new) (record {
        first = first;
        last = len - 1;
        outcome = x;
        sealed = at;
        only_caller = only_caller;
      })
  entered-written first len x at only_caller ef el ex ea =
      record {
        writes = entered_writes;
        first = ef ∙ (sym (place_of_next makes_room) ∙ ap place made_past);
        last = omega (arith, el, entered_longer, place_of_next new);
        bounded = omega (
          arith,
          ef,
          el,
          ap (λ (r : StartRows). r.at) m.same_start,
          ap (λ (r : StartRows). r.at) e.same_start,
          ap length m.same_entries,
          entered_longer,
          entered_bounded,
        );
        replies = ex;
        only_caller = ea;
      }
