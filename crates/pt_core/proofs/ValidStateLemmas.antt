-- States after one more entry: room, memory for answers, and what was settled.
use Rattle.std.proofs.Common.{◌≡◌, ◌+◌, ◌≤◌, ◌<◌, Option, Some, None, length, sym, ap, ◌∙◌, subst}
use Rattle.std.proofs.Common.{arith}
use Rattle.pt_types.specs.declared.outcome.Outcome.{Outcome}
use Rattle.pt_types.specs.Tables.{reply}
use Rattle.pt_history.specs.Stored.{Stored, stored_history}
use Rattle.pt_model.specs.declared.entry.Entry.{Entry}
use Rattle.pt_model.specs.declared.entry.Entry.TheVariants.{Call}
use Rattle.pt_model.specs.declared.entry.Event.{Event}
use Rattle.pt_model.specs.declared.entry.Event.TheVariants as event
use Rattle.pt_model.specs.Histories.{History, ◌▷◌}
use Rattle.pt_model.specs.Answers.{entry_replies}
use Rattle.pt_model.specs.Forced.{forced}
use Rattle.pt_model.specs.Verdicts.{verdict}
use Rattle.pt_model.specs.Room.{need, refusal, entry_for}
use Rattle.pt_model.specs.StartRows.{start_of_rows}
use Rattle.pt_model.specs.Legal.{events_of}
use Rattle.pt_model.specs.Steps.{Follows}
use Rattle.pt_model.proofs.Steps.{step-event, step-forced}
use Rattle.pt_model.proofs.Legality.{history_since-settled}
use Rattle.pt_state.specs.declared.state.State.{State}
use Rattle.pt_state.specs.Adds.{history_of, HasRoomFor, Adds, AddsNothing}
use Rattle.pt_state.proofs.TellNeeds.{entry_replies-need}
use Rattle.pt_machine.specs.GrantedAtOnce.{AddsBoth, IsReadyAfter}
use Rattle.pt_core.specs.Stores.{IsStoreValid}
use Rattle.pt_core.specs.Settling.{IsSettling, Settles, Enters, IsRoomReady}
use Rattle.pt_core.specs.ValidStates.{Begins, HasForcedRoom, IsValidState, MakesEventRoom}
use Rattle.pt_core.proofs.SettlingLemmas.{settling-more, settles-forced, keeps-forced}
use Rattle.pt_core.proofs.SettlingLemmas.{enters-settled, kept-entered}
use Rattle.pt_history.proofs.Places.{past-pushed}

-- an event's entry gives at most one answer
pub entry_replies-outer : (h : History) (v : Event) → length (entry_replies h (entry_for h v)) ≤ 1
entry_replies-outer h (event.Join p) = omega arith
entry_replies-outer h (event.Death c) = omega arith
entry_replies-outer h (event.Moment k t) = omega arith
entry_replies-outer h (event.Call c call) = go (reply (verdict h c call))
  where
    go : (o : Option Outcome) → length (entry_replies h (Call c call o)) ≤ 1
    go None = omega arith
    go (Some x) = omega arith

module _ {A : Type 0} where
  -- the history after an entry that was added
  pub history_of-added : (s t : State A) (e : Entry) → Adds s e t → history_of t ≡ history_of s ▷ e
  history_of-added s t e a =
      ap stored_history a.stored ∙ past-pushed s.stored e

  -- a history that is settling is settled once nothing must follow
  pub settles-at-last : (old : Stored) (s t : State A) → IsSettling old s.stored
      → (forced (history_of s) ≡ None) × (t ≡ s) → Settles old t.stored
  settles-at-last old s t g is =
      subst (λ (x : State A). Settles old x.stored) (sym is.1)
      (record { settling = g; settled = is.0 })

  module _ (s : State A) (e : Entry) (r : HasForcedRoom s) (is : forced (history_of s)
      ≡ Some e) where
    follows : Follows (history_of s)
    follows = r.read.follows

    -- the forced entry may be pushed
    pub ready-forced : HasRoomFor s e
    ready-forced =
        record {
          read = r.read;
          step = step-forced (history_of s) e is;
          room = omega (arith, (keeps-forced (history_of s) e follows is).1, r.room);
          spare = omega (arith, entry_replies-need (history_of s) e follows is, r.spare);
        }

    module _ (t : State A) (a : Adds s e t) where
      need_more : need (history_of t) ≡ need (history_of s ▷ e)
      need_more = ap need (history_of-added s t e a)

      room_more : t.stored.room + 1 ≡ s.stored.room
      room_more = omega (arith, ap (λ (x : Stored). x.room) a.stored, ready-forced.room)

      -- and there is still room
      pub roomy-forced : HasForcedRoom t
      roomy-forced =
          record {
            read = a.read;
            room = omega (
              arith,
              need_more,
              room_more,
              (keeps-forced (history_of s) e follows is).1,
              r.room,
            );
            spare = omega (
              arith,
              need_more,
              a.has_capacity,
              a.replies,
              entry_replies-need (history_of s) e follows is,
              r.spare,
            );
          }

      pub need-forced : need (history_of t) < need (history_of s)
      need-forced = omega (arith, need_more, (keeps-forced (history_of s) e follows is).1)

      pub settling-forced : (old : Stored) → IsSettling old s.stored → IsSettling old t.stored
      settling-forced old g =
          subst (λ (x : Stored). IsSettling old x) (sym a.stored)
          (settling-more old s.stored e g is)

  module _ (s : State A) (v : Event) (o : MakesEventRoom s v s) (ok : refusal (history_of s) v
      ≡ None) where
    -- an accepted event's entry may be pushed
    pub ready-outer : HasRoomFor s (entry_for (history_of s) v)
    ready-outer =
        record {
          read = o.whole.read;
          step = step-event (history_of s) v
              (history_since-settled (start_of_rows s.stored.start) s.stored.entries
              (events_of s.stored.entries) o.whole.valid_store.starts o.whole.valid_store.legal) ok;
          room = omega (arith, o.makes_room.ready.room);
          spare = omega (arith, entry_replies-outer (history_of s) v, o.spare);
        }

    module _ (t : State A) (a : Adds s (entry_for (history_of s) v) t) where
      need_outer : need (history_of t) ≡ need (history_of s ▷ entry_for (history_of s) v)
      need_outer = ap need (history_of-added s t (entry_for (history_of s) v) a)

      -- and there is room for what must follow
      pub roomy-outer : HasForcedRoom t
      roomy-outer =
          record {
            read = a.read;
            room = omega (
              arith,
              need_outer,
              ap (λ (x : Stored). x.room) a.stored,
              o.makes_room.ready.room,
            );
            spare = omega (
              arith,
              need_outer,
              a.has_capacity,
              a.replies,
              entry_replies-outer (history_of s) v,
              o.spare,
            );
          }

      pub enters-outer : (u : Stored) → Settles t.stored u → Enters s.stored v u
      enters-outer u st =
          enters-settled s.stored u v (omega (arith, o.makes_room.ready.room))
          (subst (λ (x : Stored). Settles x u) a.stored st)

      -- so the event's entry begins the event
      pub begins-outer : Begins s v t
      begins-outer = record { roomy = roomy-outer; enters = enters-outer }

    -- and so does its entry with the one that must follow
    pub begins-both : (t : State A) → AddsBoth s (entry_for (history_of s) v) t → Begins s v t
    begins-both t b =
        let roomy = roomy-outer b.mid b.first in
        record {
          roomy = roomy-forced b.mid b.next roomy b.follows t b.second;
          enters = λ u st. enters-outer b.mid b.first u
              (settles-forced b.mid.stored u b.next roomy.read.follows roomy.room b.follows
              (subst (λ (x : Stored). Settles x u) b.second.stored st));
        }

    -- what must follow its entry may be pushed
    pub ready-after : IsReadyAfter s (entry_for (history_of s) v)
    ready-after mid a f is = ready-forced mid f (roomy-outer mid a) is

  -- if no entry was added, the state is still whole
  pub whole-stays : (old new : State A) → AddsNothing old new → IsValidState old → IsValidState new
  whole-stays old new s w =
      record {
        valid_store = subst IsStoreValid (sym s.stored) w.valid_store;
        read = s.read;
        spare = omega (
          arith,
          ap (λ (x : Stored). need (stored_history x)) s.stored,
          s.has_capacity,
          s.replies,
          w.spare,
        );
      }

  -- after an event and all that followed it the state is whole again
  pub whole-entered : (makes_room new : State A) (v : Event) → IsRoomReady makes_room.stored v
      → refusal (history_of makes_room) v ≡ None → Enters makes_room.stored v new.stored → HasForcedRoom new
      → IsValidState new
  whole-entered makes_room new v ready ok e r =
      record {
        valid_store = kept-entered makes_room.stored new.stored v ready ok e;
        read = r.read;
        spare = r.spare;
      }
