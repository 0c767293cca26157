-- ArrivingLemmas: the result of an arrival that waits at a barrier.
use Rattle.std.proofs.Common.{◌≡◌, ℕ, ◌+◌, ◌-◌, Bool, true, false, Option, None, length, refl}
use Rattle.std.proofs.Common.{sym, ap, ◌∙◌, subst, arith}
use Rattle.pt_types.specs.declared.call.Call.{Call as FunctionCall}
use Rattle.pt_types.specs.declared.outcome.Outcome.{Outcome}
use Rattle.pt_model.specs.declared.entry.Entry.{Entry}
use Rattle.pt_model.specs.declared.entry.Entry.TheVariants.{Call}
use Rattle.pt_model.specs.declared.entry.Event.{Event}
use Rattle.pt_model.specs.declared.entry.Event.TheVariants as event
use Rattle.pt_model.specs.Histories.{History, place}
use Rattle.pt_model.specs.Answers.{outcome}
use Rattle.pt_model.specs.Room.{entry_for, needs_seal, refusal}
use Rattle.pt_model.proofs.Sound.{Fresh-follows}
use Rattle.pt_history.proofs.Places.{place_of_next}
use Rattle.pt_state.specs.declared.state.State.{State}
use Rattle.pt_state.specs.Adds.{Adds, HasRoomFor, history_of}
use Rattle.pt_machine.specs.declared.plans.Plan.{Plan}
use Rattle.pt_machine.specs.GrantedAtOnce.{AddsBoth, IsReadyAfter}
use Rattle.pt_machine.specs.Plans.{IsPlanned, entry_with}
use Rattle.pt_legal.specs.Applying.{outcome_at_once}
use Rattle.pt_core.specs.Settling.{Enters}
use Rattle.pt_core.specs.Trying.{WroteEvent}
use Rattle.pt_core.specs.ValidStates.{Begins, MakesEventRoom, HasForcedRoom}
use Rattle.pt_core.proofs.OpenLemmas.{open-within}
use Rattle.pt_core.proofs.ValidStateLemmas.{begins-both, begins-outer, history_of-added, ready-after}
use Rattle.pt_core.proofs.ValidStateLemmas.{ready-outer, whole-entered}
use Rattle.pt_core.proofs.WritingLemmas.{entered-written}

module _ {A : Type 0} (s : State A) (c : ℕ) (call : FunctionCall)
    (o : MakesEventRoom s (event.Call c call) s)
    (ok : refusal (history_of s) (event.Call c call) ≡ None) (plan : Plan)
    (planned : IsPlanned (history_of s) (event.Call c call) plan) (waits : plan.answer ≡ None) where
  -- its entry has no answer
  enters : entry_for (history_of s) (event.Call c call) ≡ Call c call None
  enters = sym planned.enters ∙ ap (entry_with (history_of s) (event.Call c call)) waits

  pub ready-arrival : HasRoomFor s (Call c call None)
  ready-arrival =
      subst (λ (e : Entry). HasRoomFor s e) enters (ready-outer s (event.Call c call) o ok)

  pub ready-after-arrival : IsReadyAfter s (Call c call None)
  ready-after-arrival =
      subst (λ (e : Entry). IsReadyAfter s e) enters (ready-after s (event.Call c call) o ok)

  module _ (new : State A) where
    -- its entry begins the event, with a Trip or without
    begins-arrival : Adds s (Call c call None) new → Begins s (event.Call c call) new
    begins-arrival a =
        begins-outer s (event.Call c call) o ok new
        (subst (λ (e : Entry). Adds s e new) (sym enters) a)

    begins-trip : AddsBoth s (Call c call None) new → Begins s (event.Call c call) new
    begins-trip a =
        begins-both s (event.Call c call) o ok new
        (subst (λ (e : Entry). AddsBoth s e new) (sym enters) a)

    pub begins-either : (rests : Bool) → (rests ≡ true → Adds s (Call c call None) new)
        → (rests ≡ false → AddsBoth s (Call c call None) new)
        → Begins s (event.Call c call) new
    begins-either true one both = begins-arrival (one refl)
    begins-either false one both = begins-trip (both refl)

    -- it has no answer while its entry is the last
    pub unanswered-arrival : Adds s (Call c call None) new
        → outcome (history_of new) (place (history_of s)) ≡ None
    unanswered-arrival a =
        ap (λ (h : History). outcome h (place (history_of s))) (history_of-added s new
        (Call c call None) a)
        ∙ (Fresh-follows (history_of s) ready-arrival.read.follows).answers (place (history_of s))
        (omega arith)

-- an arrival that was written has this answer after all that followed it
pub wrote-arrival : {A : Type 0} (old new : State A) (v : Event) → MakesEventRoom old v old
    → refusal (history_of old) v ≡ None → needs_seal old.stored.limit (history_of old) v ≡ false
    → Enters old.stored v new.stored → HasForcedRoom new → (x : Option Outcome)
    → x ≡ outcome_at_once v (history_of new) (place (history_of old)) → WroteEvent old v new x false
wrote-arrival old new v o ok none e roomy x replies =
    record {
      whole = whole-entered old new v o.makes_room.ready ok e roomy;
      unsealed = none;
      what = record {
        first = old.stored.start.at + length old.stored.entries;
        last = new.stored.start.at + length new.stored.entries - 1;
        outcome = x;
        sealed = None;
        only_caller = false;
      };
      written = entered-written old.stored old.stored new.stored v o.makes_room e
          (open-within old old v o ok) (old.stored.start.at + length old.stored.entries)
          (new.stored.start.at + length new.stored.entries) x None false refl refl
          (replies ∙ ap (outcome_at_once v (history_of new)) (place_of_next old.stored))
          (λ never. absurd cc);
      replies = refl;
      only = λ never. absurd cc;
    }
