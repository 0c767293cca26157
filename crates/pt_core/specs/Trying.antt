-- Trying: the result of an event that is written if there is room for it already.
use Rattle.std.specs.Prelude.{◌≡◌, Bool, true, false, Some, None, Option}
use Rattle.std.specs.Prelude.{Result, Ok, Err}
use Rattle.pt_types.specs.declared.outcome.Outcome.{Outcome}
use Rattle.pt_types.specs.declared.outcome.Refusal.{Refusal}
use Rattle.pt_model.specs.declared.entry.Event.{Event}
use Rattle.pt_model.specs.Room.{needs_seal}
use Rattle.pt_state.specs.declared.state.State.{State}
use Rattle.pt_state.specs.Adds.{history_of}
use Rattle.pt_legal.specs.declared.applied.Applied.{Applied}
use Rattle.pt_core.specs.declared.fast_paths.TryResult.{TryResult}
use Rattle.pt_core.specs.declared.fast_paths.TryResult.TheVariants.{OnlyCaller, Answered}
use Rattle.pt_core.specs.declared.fast_paths.TryResult.TheVariants.{Unanswered, Refused}
use Rattle.pt_core.specs.declared.fast_paths.TryResult.TheVariants.{NotApplicable}
use Rattle.pt_legal.specs.Applying.{IsRefusalWithoutSeal, IsEventWritten, is_death}
use Rattle.pt_core.specs.Stores.{store_core, store_view}
use Rattle.pt_core.specs.ValidStates.{IsValidState}

-- the result of an event that was written with this answer, if it has one, by whether it is known
-- that no other call was answered
abbrev pub result_with : (only_caller : Bool) → Option Outcome → TryResult
result_with true (Some x) = OnlyCaller x
result_with false (Some x) = Answered x
result_with only_caller None = Unanswered

-- the result of an event without its places
abbrev pub result_of_try : Result Applied Refusal → TryResult
result_of_try (Ok a) = result_with a.only_caller a.outcome
result_of_try (Err r) = Refused r

module _ {A : Type 0} where
  -- the event is written without a seal and has this answer; if `only_caller` is true, no other
  -- call was answered
  pub record WroteEvent (old : State A) (event : Event) (new : State A) (x : Option Outcome)
      (only_caller : Bool) : Type 0 where
    pub whole : IsValidState new
    pub unsealed : needs_seal old.stored.limit (history_of old) event ≡ false
    pub what : Applied
    pub written : IsEventWritten (store_core old.stored) event (store_core new.stored) what
    pub replies : what.outcome ≡ x
    pub only : only_caller ≡ true → what.only_caller ≡ true

  -- the event is refused, though it needs no seal
  pub record RefusesEvent (old : State A) (event : Event) (new : State A)
      (r : Refusal) : Type 0 where
    pub whole : IsValidState new
    pub unsealed : needs_seal old.stored.limit (history_of old) event ≡ false
    pub why : IsRefusalWithoutSeal (store_core old.stored) event r
    pub unchanged : store_view new.stored ≡ store_view old.stored
    pub other : is_death event ≡ false

  -- the event was tried with this result
  abbrev pub IsTryResult : State A → Event → State A → TryResult → Type 0
  IsTryResult old v new (OnlyCaller x) = WroteEvent old v new (Some x) true
  IsTryResult old v new (Answered x) = WroteEvent old v new (Some x) false
  IsTryResult old v new Unanswered = WroteEvent old v new None false
  IsTryResult old v new (Refused r) = RefusesEvent old v new r
  IsTryResult old v new NotApplicable = new ≡ old
