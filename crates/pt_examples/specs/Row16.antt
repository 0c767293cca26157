-- Row16: a dead owner of a stalled mutex keeps it.
use Rattle.std.specs.Prelude.{◌≡◌, List, [], ◌∷◌, ℕ, false, Some, None, Result, Ok, Err, codes}
use Rattle.pt_types.specs.Times.{nanos}
use Rattle.pt_types.specs.declared.time.Clock.TheVariants.{Real}
use Rattle.pt_types.specs.declared.call.Call.TheVariants as call
use Rattle.pt_types.specs.declared.call.MutexKind.TheVariants.{Normal}
use Rattle.pt_types.specs.declared.outcome.Outcome.{Outcome}
use Rattle.pt_types.specs.declared.outcome.Outcome.TheVariants.{Done, Ebusy, Etimedout}
use Rattle.pt_types.specs.declared.outcome.Refusal.{Refusal}
use Rattle.pt_types.specs.declared.outcome.Refusal.TheVariants.{Blocked}
use Rattle.pt_model.specs.declared.entry.Entry.{Entry}
use Rattle.pt_model.specs.declared.entry.Entry.TheVariants.{Join, Call, Death, Moment, Grant}
use Rattle.pt_model.specs.declared.entry.Entry.TheVariants.{Expire}
use Rattle.pt_model.specs.declared.entry.Event.{Event}
use Rattle.pt_model.specs.declared.entry.Event.TheVariants as event
use Rattle.pt_model.specs.Histories.{Begin}
use Rattle.pt_model.specs.Starts.{empty_start}
use Rattle.pt_examples.specs.Play.{play, outcomes_in, at}

abbrev pub named_m : List ℕ
named_m = codes "m"

-- the events of the row
abbrev pub events : List Event
events =
    event.Join 10
    ∷ event.Join 10
    ∷ event.Call 0 (call.MutexInit named_m Normal false)
    ∷ event.Call 0 (call.Lock named_m)
    ∷ event.Call 0 (call.Lock named_m)
    ∷ event.Call 0 (call.Unlock named_m)
    ∷ event.Death 0
    ∷ event.Call 1 (call.Trylock named_m)
    ∷ event.Call 1 (call.Timedlock named_m (at 5 0))
    ∷ event.Moment Real (nanos 5 0)
    ∷ event.Call 1 (call.MutexDestroy named_m)
    ∷ event.Call 1 (call.MutexInit named_m Normal false)
    ∷ []

-- the entries that each event writes, or its refusal
abbrev pub entered : List (Result (List Entry) Refusal)
entered =
    Ok (Join 0 10 ∷ [])
    ∷ Ok (Join 1 10 ∷ [])
    ∷ Ok (Call 0 (call.MutexInit named_m Normal false) (Some Done) ∷ [])
    ∷ Ok (Call 0 (call.Lock named_m) None ∷ Grant 3 Done ∷ [])
    ∷ Ok (Call 0 (call.Lock named_m) None ∷ [])
    ∷ Err Blocked
    ∷ Ok (Death 0 ∷ [])
    ∷ Ok (Call 1 (call.Trylock named_m) (Some Ebusy) ∷ [])
    ∷ Ok (Call 1 (call.Timedlock named_m (at 5 0)) None ∷ [])
    ∷ Ok (Moment Real (nanos 5 0) ∷ Expire 8 ∷ [])
    ∷ Ok (Call 1 (call.MutexDestroy named_m) (Some Done) ∷ [])
    ∷ Ok (Call 1 (call.MutexInit named_m Normal false) (Some Done) ∷ [])
    ∷ []

-- the answers that each accepted event gives, each with its client
abbrev pub outcomes : List (List (ℕ × Outcome))
outcomes =
    []
    ∷ []
    ∷ ((0, Done) ∷ [])
    ∷ ((0, Done) ∷ [])
    ∷ []
    ∷ []
    ∷ ((1, Ebusy) ∷ [])
    ∷ []
    ∷ ((1, Etimedout) ∷ [])
    ∷ ((1, Done) ∷ [])
    ∷ ((1, Done) ∷ [])
    ∷ []

-- the definitions alone give these entries and answers for the events
abbrev pub IsPlayed16 : Type 0
IsPlayed16 = (play (Begin empty_start) events ≡ entered) × (outcomes_in (Begin empty_start) entered
    ≡ outcomes)
