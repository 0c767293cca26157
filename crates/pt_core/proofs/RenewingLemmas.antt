-- A state that was sealed with room for an event: what follows is the same, and there is room for
-- it.
use Rattle.std.proofs.Common.{◌≡◌, ℕ, ◌+◌, ◌≤◌, None, [], length, refl, sym, ap, ◌∙◌, subst, arith}
use Rattle.pt_model.specs.declared.entry.Entry.{Entry}
use Rattle.pt_model.specs.declared.entry.Event.{Event}
use Rattle.pt_model.specs.Histories.{History, Begin, ◌▷◌}
use Rattle.pt_model.specs.Answers.{entry_replies}
use Rattle.pt_model.specs.Forced.{forced}
use Rattle.pt_model.specs.Legal.{LegalSince, events_of}
use Rattle.pt_model.specs.Room.{need, refusal, entry_for}
use Rattle.pt_model.specs.Seals.{seal}
use Rattle.pt_model.specs.SealLaws.{ContinuesAlike}
use Rattle.pt_model.specs.StartRows.{start_of_rows}
use Rattle.pt_model.specs.Starts.{Start}
use Rattle.pt_model.specs.Steps.{IsStart, Follows, Step}
use Rattle.pt_model.proofs.Agreeing.{seal_agrees}
use Rattle.pt_model.proofs.ContinuesAlike.{agrees_on}
use Rattle.pt_model.proofs.Induction.{start-seal}
use Rattle.pt_model.proofs.Steps.{step-event}
use Rattle.pt_state.specs.declared.state.State.{State}
use Rattle.pt_state.specs.Adds.{Adds, history_of}
use Rattle.pt_state.specs.Sealed.{SealsWithRoom, StaysOrGrows}
use Rattle.pt_machine.specs.AfterSeal.{AddsSealed}
use Rattle.pt_machine.proofs.UnsealedMachines.{history_of-renewed}
use Rattle.pt_history.specs.Stored.{Stored, stored_history}
use Rattle.pt_core.specs.Renewing.{EntersSealed}
use Rattle.pt_core.specs.Settling.{Settles}
use Rattle.pt_core.specs.ValidStates.{IsValidState, HasForcedRoom, MakesEventRoom}
use Rattle.pt_core.proofs.SealedCores.{settled}
use Rattle.pt_core.proofs.ValidStateLemmas.{roomy-outer, enters-outer}

module _ {A : Type 0} (old : State A) (whole : IsValidState old) (v : Event)
    (ok : refusal (history_of old) v ≡ None) where
  abbrev h : History
  h = history_of old

  abbrev g : History
  g = Begin (seal (history_of old))

  follows : Follows (history_of old)
  follows = whole.read.follows

  alike : ContinuesAlike (history_of old) (Begin (seal (history_of old)))
  alike = agrees_on h g follows (start-seal h follows) (seal_agrees h follows)

  quiet : forced (Begin (seal (history_of old))) ≡ None
  quiet = sym alike.forces ∙ settled old whole

  refused : refusal (Begin (seal (history_of old))) v ≡ None
  refused = sym (alike.refuses v) ∙ ok

  step : Step (history_of old) (entry_for (history_of old) v)
  step = step-event h v (settled old whole) ok

  -- the event becomes the same entry after the seal
  pub entry-renewed : entry_for (history_of old) v ≡ entry_for (Begin (seal (history_of old))) v
  entry-renewed = alike.enters v

  -- the entry may follow the seal
  pub step-renewed : Step (Begin (seal (history_of old))) (entry_for (history_of old) v)
  step-renewed = subst (Step g) (sym (alike.enters v)) (step-event g v quiet refused)

  next : need (history_of old ▷ entry_for (history_of old) v)
      ≡ need (Begin (seal (history_of old)) ▷ entry_for (history_of old) v)
  next =
      (agrees_on (h ▷ entry_for h v) (g ▷ entry_for h v) (follows, step)
      (start-seal h follows, step-renewed) (alike.agrees (entry_for h v) step)).needs

  module _ (new : State A) (n : ℕ) (s : SealsWithRoom old new n)
      (enough : 1 + need (history_of old ▷ entry_for (history_of old) v)
      ≤ n) (more : old.stored.room ≤ n)
      (fits : n ≤ old.stored.limit) where
    begins : history_of new ≡ Begin (seal (history_of old))
    begins = history_of-renewed old new n s

    pub same-entry : entry_for (history_of old) v ≡ entry_for (history_of new) v
    same-entry = alike.enters v ∙ ap (λ (x : History). entry_for x v) (sym begins)

    -- the need is unchanged
    needed : need (history_of new) ≡ need (history_of old)
    needed = ap need begins ∙ sym alike.needs

    needed_next :
        need (history_of new ▷ entry_for (history_of new) v)
        ≡ need (history_of old ▷ entry_for (history_of old) v)
    needed_next =
        ap (λ (e : Entry). need (history_of new ▷ e)) (sym same-entry)
        ∙ (ap (λ (x : History). need (x ▷ entry_for (history_of old) v)) begins ∙ sym next)

    pub refused-renewed : refusal (history_of new) v ≡ None
    refused-renewed = ap (λ (x : History). refusal x v) begins ∙ refused

    starts : IsStart (start_of_rows new.stored.start)
    starts = subst IsStart (sym s.starts) (start-seal h follows)

    legal : LegalSince (start_of_rows new.stored.start) new.stored.entries
        (events_of new.stored.entries)
    legal =
        subst (λ es. LegalSince (start_of_rows new.stored.start) es (events_of es)) (sym s.entries)
        (subst (λ (st : Start). LegalSince st [] []) (sym s.starts) (quiet, refl))

    fits_new : length new.stored.entries + new.stored.room ≤ new.stored.limit
    fits_new = omega (arith, ap length s.entries, s.room, s.limit, fits)

    -- the state has room for the event
    pub roomy-renewed : MakesEventRoom new v new
    roomy-renewed =
        record {
          whole = record {
            valid_store = record {
              starts = starts;
              legal = legal;
              room = omega (arith, needed, whole.valid_store.room, s.room, more);
              fits = fits_new;
              limit = omega (arith, whole.valid_store.limit, s.limit);
            };
            read = s.read;
            spare = omega (arith, needed, s.answers, s.has_capacity, whole.valid_store.room, more);
          };
          makes_room = record {
            same_start = refl;
            same_entries = refl;
            same_limit = refl;
            ready = record {
              starts = starts;
              legal = legal;
              room = omega (arith, needed_next, enough, s.room);
              fits = fits_new;
              limit = omega (arith, whole.valid_store.limit, s.limit);
            };
          };
          spare = omega (arith, needed_next, enough, s.answers, s.has_capacity);
        }

  module _ (n : ℕ) (enough : 1 + need (history_of old ▷ entry_for (history_of old) v) ≤ n)
      (more : old.stored.room ≤ n) (fits : n ≤ old.stored.limit) (after : State A)
      (a : AddsSealed old n (entry_for (history_of old) v) after) where
    open_there : MakesEventRoom a.sealed v a.sealed
    open_there = roomy-renewed a.sealed n a.seals enough more fits

    accepted_there : refusal (history_of a.sealed) v ≡ None
    accepted_there = refused-renewed a.sealed n a.seals enough more fits

    added : Adds a.sealed (entry_for (history_of a.sealed) v) after
    added =
        subst (λ (e : Entry). Adds a.sealed e after)
        (same-entry a.sealed n a.seals enough more fits) a.adds

    -- after the entry there is room for what must follow
    pub roomy-added : HasForcedRoom after
    roomy-added = roomy-outer a.sealed v open_there accepted_there after added

    -- and after that was added too, the event was entered
    pub enters-renewed : (new : Stored) → Settles after.stored new
        → EntersSealed old.stored v new
    enters-renewed new st =
        record {
          sealed = a.sealed.stored;
          starts = a.seals.starts;
          entries = a.seals.entries;
          same_limit = a.seals.limit;
          ready = open_there.makes_room.ready;
          accepted = accepted_there;
          enters = enters-outer a.sealed v open_there accepted_there after added new st;
        }

-- if the memory for answers stays or grows, there is still room for what must follow
pub roomy-kept : {A : Type 0} (old new : State A) → StaysOrGrows old new → HasForcedRoom old
    → HasForcedRoom new
roomy-kept old new s r =
    let same : need (history_of new)
    ≡ need (history_of old) = ap (λ (t : Stored). need (stored_history t)) s.stored in
    record {
      read = s.read;
      room = omega (arith, same, ap (λ (t : Stored). t.room) s.stored, r.room);
      spare = omega (arith, same, s.replies, s.has_capacity, r.spare);
    }
