-- Row15: nanoseconds of a second or more.
use Rattle.std.specs.Prelude.{◌≡◌, List, [], ◌∷◌, ℕ, false, Some, None, Result, Ok, codes}
use Rattle.pt_types.specs.declared.call.Call.TheVariants as call
use Rattle.pt_types.specs.declared.call.MutexKind.TheVariants.{Errorcheck}
use Rattle.pt_types.specs.declared.outcome.Outcome.{Outcome}
use Rattle.pt_types.specs.declared.outcome.Outcome.TheVariants.{Done, Einval}
use Rattle.pt_types.specs.declared.outcome.Refusal.{Refusal}
use Rattle.pt_model.specs.declared.entry.Entry.{Entry}
use Rattle.pt_model.specs.declared.entry.Entry.TheVariants.{Join, Call, Grant}
use Rattle.pt_model.specs.declared.entry.Event.{Event}
use Rattle.pt_model.specs.declared.entry.Event.TheVariants as event
use Rattle.pt_model.specs.Histories.{Begin}
use Rattle.pt_model.specs.Starts.{empty_start}
use Rattle.pt_examples.specs.Play.{play, outcomes_in, at}

abbrev pub named_c : List ℕ
named_c = codes "c"

abbrev pub named_m : List ℕ
named_m = codes "m"

-- the events of the row
abbrev pub events : List Event
events =
    event.Join 10
    ∷ event.Join 10
    ∷ event.Call 0 (call.MutexInit named_m Errorcheck false)
    ∷ event.Call 0 (call.CondInit named_c)
    ∷ event.Call 0 (call.Timedlock named_m (at 9 1000000000))
    ∷ event.Call 1 (call.Timedlock named_m (at 9 1000000000))
    ∷ event.Call 0 (call.Timedwait named_c named_m (at 9 1000000000))
    ∷ event.Call 0 (call.Unlock named_m)
    ∷ []

-- the entries that each event writes, or its refusal
abbrev pub entered : List (Result (List Entry) Refusal)
entered =
    Ok (Join 0 10 ∷ [])
    ∷ Ok (Join 1 10 ∷ [])
    ∷ Ok (Call 0 (call.MutexInit named_m Errorcheck false) (Some Done) ∷ [])
    ∷ Ok (Call 0 (call.CondInit named_c) (Some Done) ∷ [])
    ∷ Ok (Call 0 (call.Timedlock named_m (at 9 1000000000)) None ∷ Grant 4 Done ∷ [])
    ∷ Ok (Call 1 (call.Timedlock named_m (at 9 1000000000)) (Some Einval) ∷ [])
    ∷ Ok (Call 0 (call.Timedwait named_c named_m (at 9 1000000000)) (Some Einval) ∷ [])
    ∷ Ok (Call 0 (call.Unlock named_m) (Some Done) ∷ [])
    ∷ []

-- the answers that each accepted event gives, each with its client
abbrev pub outcomes : List (List (ℕ × Outcome))
outcomes =
    []
    ∷ []
    ∷ ((0, Done) ∷ [])
    ∷ ((0, Done) ∷ [])
    ∷ ((0, Done) ∷ [])
    ∷ ((1, Einval) ∷ [])
    ∷ ((0, Einval) ∷ [])
    ∷ ((0, Done) ∷ [])
    ∷ []

-- the definitions alone give these entries and answers for the events
abbrev pub IsPlayed15 : Type 0
IsPlayed15 = (play (Begin empty_start) events ≡ entered) × (outcomes_in (Begin empty_start) entered
    ≡ outcomes)
