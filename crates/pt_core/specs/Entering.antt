-- Entering: pushing an accepted event's entry by its plan, and applying an accepted event.
use Rattle.std.specs.Prelude.{ℕ, ◌≡◌, ◌≤◌, true, false, None, Result, IfErr, IfOk, IsOk}
use Rattle.std.specs.Prelude.{OnErr, OnOk}
use Rattle.pt_types.specs.declared.outcome.Refusal.{Refusal}
use Rattle.pt_types.specs.declared.outcome.Refusal.TheVariants.{Enomem}
use Rattle.pt_model.specs.declared.entry.Event.{Event}
use Rattle.pt_model.specs.declared.entry.Event.TheVariants.{Death}
use Rattle.pt_model.specs.Clients.{is_alive}
use Rattle.pt_model.specs.Forced.{forced}
use Rattle.pt_model.specs.Histories.{place}
use Rattle.pt_model.specs.Room.{entry_for, refusal}
use Rattle.pt_history.specs.Stored.{Stored, stored_history}
use Rattle.pt_state.specs.declared.state.State.{State}
use Rattle.pt_state.specs.Adds.{AddsNothing, history_of}
use Rattle.pt_machine.specs.Memory.{needs_memory}
use Rattle.pt_machine.specs.Plans.{IsPlanned}
use Rattle.pt_machine.specs.declared.plans.Plan.{Plan}
use Rattle.pt_legal.specs.declared.applied.Applied.{Applied}
use Rattle.pt_legal.specs.Applying.{IsApplied, IsRefusalWithoutSeal, IsRefusal, KeepsOutcome}
use Rattle.pt_legal.specs.Applying.{IsEventWritten, is_death}
use Rattle.pt_core.specs.declared.settling.Pushed.{Pushed}
use Rattle.pt_core.specs.Settling.{AnswersOnlyCaller, Settles}
use Rattle.pt_core.specs.Stores.{store_core, store_view}
use Rattle.pt_core.specs.ValidStates.{Begins, HasEventRoom, MakesEventRoom, IsValidState}

module _ {A : Type 0} where
  -- an event is accepted, this is its plan, and there is room for its entry and all that must
  -- follow it
  pub record CanEnter (s : State A) (event : Event) (plan : Plan) : Type 0 where
    pub «open» : MakesEventRoom s event s
    pub accepted : refusal (history_of s) event ≡ None
    pub planned : IsPlanned (history_of s) event plan

  -- the event's entry was pushed, perhaps with the one that must follow it, or refused for want of
  -- the memory that it needs; what is known of the event's own answer, and of all that must follow
  pub record EntersOnOk (old : State A) (event : Event) (result : Result Pushed Refusal)
      (new : State A) : Type 0 where
    pub ok : OnOk result (Begins old event new)
    pub replies : IfOk result (λ pushed. (u : Stored) → Settles new.stored u
        → KeepsOutcome event pushed.answer (stored_history u) (place (history_of old)))
    pub rests : IfOk result (λ pushed. pushed.rests ≡ true → forced (history_of new) ≡ None)
    pub only_caller : IfOk result (λ pushed. pushed.rests ≡ true
        → AnswersOnlyCaller new.stored event (place (history_of old)))
    pub err : OnErr result (AddsNothing old new)
    pub reason : IfErr result (λ r. r ≡ Enomem)
    pub enough : needs_memory (entry_for (history_of old) event) ≡ false → IsOk result

  -- an event is accepted, and this is its plan
  pub record CanWrite (s : State A) (event : Event) (plan : Plan) : Type 0 where
    pub whole : IsValidState s
    pub accepted : refusal (history_of s) event ≡ None
    pub planned : IsPlanned (history_of s) event plan
    pub bounded : plan.need ≤ 8195

  -- the event was written without a seal, or refused and nothing was changed; it is refused only
  -- for want of room or memory that is not there already, and a Death never is  [profile]
  pub record WritesOnOk (old : State A) (event : Event) (result : Result Applied Refusal)
      (new : State A) : Type 0 where
    pub whole : IsValidState new
    pub ok : IfOk result (IsEventWritten (store_core old.stored) event (store_core new.stored))
    pub unsealed : IfOk result (λ applied. applied.sealed ≡ None)
    pub err : IfErr result (IsRefusalWithoutSeal (store_core old.stored) event)
    pub unchanged : OnErr result (store_view new.stored ≡ store_view old.stored)
    pub death : is_death event ≡ true → IsOk result
    pub enough : HasEventRoom old event → needs_memory (entry_for (history_of old) event) ≡ false
        → IsOk result

  -- the event was applied, or refused and nothing was changed; the Death of a living client is
  -- never refused, and no Death seals  [profile]
  pub record AppliesOnOk (old : State A) (event : Event) (result : Result Applied Refusal)
      (new : State A) : Type 0 where
    pub whole : IsValidState new
    pub ok : IfOk result (IsApplied (store_core old.stored) event (store_core new.stored))
    pub err : IfErr result (IsRefusal (store_core old.stored) event)
    pub unchanged : OnErr result (store_view new.stored ≡ store_view old.stored)
    pub death : (c : ℕ) → event ≡ Death c → is_alive (history_of old) c ≡ true → IsOk result
    pub unsealed : (c : ℕ) → event ≡ Death c → IfOk result (λ applied. applied.sealed ≡ None)
