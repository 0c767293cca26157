-- Row32: deadlines of one moment, and a clock that never goes back.
use Rattle.std.specs.Prelude.{◌≡◌, List, [], ◌∷◌, ℕ, false, Some, None, Result, Ok, codes}
use Rattle.pt_types.specs.Times.{nanos}
use Rattle.pt_types.specs.declared.time.Clock.TheVariants.{Real}
use Rattle.pt_types.specs.declared.call.Call.TheVariants as call
use Rattle.pt_types.specs.declared.call.MutexKind.TheVariants.{Normal}
use Rattle.pt_types.specs.declared.outcome.Outcome.{Outcome}
use Rattle.pt_types.specs.declared.outcome.Outcome.TheVariants.{Done, Etimedout}
use Rattle.pt_types.specs.declared.outcome.Refusal.{Refusal}
use Rattle.pt_model.specs.declared.entry.Entry.{Entry}
use Rattle.pt_model.specs.declared.entry.Entry.TheVariants.{Join, Call, Moment, Grant, Expire}
use Rattle.pt_model.specs.declared.entry.Event.{Event}
use Rattle.pt_model.specs.declared.entry.Event.TheVariants as event
use Rattle.pt_model.specs.Histories.{Begin}
use Rattle.pt_model.specs.Starts.{empty_start}
use Rattle.pt_examples.specs.Play.{play, outcomes_in, at}

abbrev pub named_m : List ℕ
named_m = codes "m"

-- the events of the row
abbrev pub events : List Event
events =
    event.Join 10
    ∷ event.Join 10
    ∷ event.Join 10
    ∷ event.Call 0 (call.MutexInit named_m Normal false)
    ∷ event.Call 0 (call.Lock named_m)
    ∷ event.Call 1 (call.Timedlock named_m (at 5 0))
    ∷ event.Call 2 (call.Timedlock named_m (at 5 0))
    ∷ event.Moment Real (nanos 9 0)
    ∷ event.Moment Real (nanos 3 0)
    ∷ event.Call 1 (call.Timedlock named_m (at 8 999999999))
    ∷ event.Call 1 (call.Timedlock named_m (at 9 1))
    ∷ event.Call 0 (call.Unlock named_m)
    ∷ []

-- the entries that each event writes, or its refusal
abbrev pub entered : List (Result (List Entry) Refusal)
entered =
    Ok (Join 0 10 ∷ [])
    ∷ Ok (Join 1 10 ∷ [])
    ∷ Ok (Join 2 10 ∷ [])
    ∷ Ok (Call 0 (call.MutexInit named_m Normal false) (Some Done) ∷ [])
    ∷ Ok (Call 0 (call.Lock named_m) None ∷ Grant 4 Done ∷ [])
    ∷ Ok (Call 1 (call.Timedlock named_m (at 5 0)) None ∷ [])
    ∷ Ok (Call 2 (call.Timedlock named_m (at 5 0)) None ∷ [])
    ∷ Ok (Moment Real (nanos 9 0) ∷ Expire 6 ∷ Expire 7 ∷ [])
    ∷ Ok (Moment Real (nanos 3 0) ∷ [])
    ∷ Ok (Call 1 (call.Timedlock named_m (at 8 999999999)) None ∷ Expire 12 ∷ [])
    ∷ Ok (Call 1 (call.Timedlock named_m (at 9 1)) None ∷ [])
    ∷ Ok (Call 0 (call.Unlock named_m) (Some Done) ∷ Grant 14 Done ∷ [])
    ∷ []

-- the answers that each accepted event gives, each with its client
abbrev pub outcomes : List (List (ℕ × Outcome))
outcomes =
    []
    ∷ []
    ∷ []
    ∷ ((0, Done) ∷ [])
    ∷ ((0, Done) ∷ [])
    ∷ []
    ∷ []
    ∷ ((1, Etimedout) ∷ (2, Etimedout) ∷ [])
    ∷ []
    ∷ ((1, Etimedout) ∷ [])
    ∷ []
    ∷ ((0, Done) ∷ (1, Done) ∷ [])
    ∷ []

-- the definitions alone give these entries and answers for the events
abbrev pub IsPlayed32 : Type 0
IsPlayed32 = (play (Begin empty_start) events ≡ entered) × (outcomes_in (Begin empty_start) entered
    ≡ outcomes)
