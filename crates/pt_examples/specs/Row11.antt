-- Row11: a deadline that has passed still releases the mutex.
use Rattle.std.specs.Prelude.{◌≡◌, List, [], ◌∷◌, ℕ, false, Some, None, Result, Ok, codes}
use Rattle.pt_types.specs.Times.{nanos}
use Rattle.pt_types.specs.declared.time.Clock.TheVariants.{Real}
use Rattle.pt_types.specs.declared.call.Call.TheVariants as call
use Rattle.pt_types.specs.declared.call.MutexKind.TheVariants.{Normal}
use Rattle.pt_types.specs.declared.outcome.Outcome.{Outcome}
use Rattle.pt_types.specs.declared.outcome.Outcome.TheVariants.{Done, Etimedout}
use Rattle.pt_types.specs.declared.outcome.Refusal.{Refusal}
use Rattle.pt_model.specs.declared.entry.Entry.{Entry}
use Rattle.pt_model.specs.declared.entry.Entry.TheVariants.{Join, Call, Moment, Grant, Expire}
use Rattle.pt_model.specs.declared.entry.Event.{Event}
use Rattle.pt_model.specs.declared.entry.Event.TheVariants as event
use Rattle.pt_model.specs.Histories.{Begin}
use Rattle.pt_model.specs.Starts.{empty_start}
use Rattle.pt_model.specs.Legal.{Legal}
use Rattle.pt_examples.specs.Play.{play, outcomes_in, at, entries_in, accepted_of}

abbrev pub named_c : List ℕ
named_c = codes "c"

abbrev pub named_m : List ℕ
named_m = codes "m"

-- the events of the row
abbrev pub events : List Event
events =
    event.Moment Real (nanos 10 0)
    ∷ event.Join 10
    ∷ event.Join 10
    ∷ event.Call 1 (call.MutexInit named_m Normal false)
    ∷ event.Call 1 (call.CondInit named_c)
    ∷ event.Call 1 (call.Lock named_m)
    ∷ event.Call 2 (call.Lock named_m)
    ∷ event.Call 1 (call.Timedwait named_c named_m (at 5 0))
    ∷ event.Call 2 (call.Unlock named_m)
    ∷ []

-- the entries that each event writes, or its refusal
abbrev pub entered : List (Result (List Entry) Refusal)
entered =
    Ok (Moment Real (nanos 10 0) ∷ [])
    ∷ Ok (Join 1 10 ∷ [])
    ∷ Ok (Join 2 10 ∷ [])
    ∷ Ok (Call 1 (call.MutexInit named_m Normal false) (Some Done) ∷ [])
    ∷ Ok (Call 1 (call.CondInit named_c) (Some Done) ∷ [])
    ∷ Ok (Call 1 (call.Lock named_m) None ∷ Grant 5 Done ∷ [])
    ∷ Ok (Call 2 (call.Lock named_m) None ∷ [])
    ∷ Ok (Call 1 (call.Timedwait named_c named_m (at 5 0)) None ∷ Grant 7 Done ∷ Expire 8 ∷ [])
    ∷ Ok (Call 2 (call.Unlock named_m) (Some Done) ∷ Grant 8 Etimedout ∷ [])
    ∷ []

-- the answers that each accepted event gives, each with its client
abbrev pub outcomes : List (List (ℕ × Outcome))
outcomes =
    []
    ∷ []
    ∷ []
    ∷ ((1, Done) ∷ [])
    ∷ ((1, Done) ∷ [])
    ∷ ((1, Done) ∷ [])
    ∷ []
    ∷ ((2, Done) ∷ [])
    ∷ ((2, Done) ∷ (1, Etimedout) ∷ [])
    ∷ []

-- the definitions alone give these entries and answers for the events
abbrev pub IsPlayed11 : Type 0
IsPlayed11 = (play (Begin empty_start) events ≡ entered) × (outcomes_in (Begin empty_start) entered
    ≡ outcomes)

-- the entries are the history of the accepted events
abbrev pub IsLegal11 : Type 0
IsLegal11 = Legal (entries_in entered) (accepted_of events entered)
