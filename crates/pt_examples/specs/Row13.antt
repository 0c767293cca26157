-- Row13: a wait whose deadline passed learns of an owner's death.
use Rattle.std.specs.Prelude.{◌≡◌, List, [], ◌∷◌, ℕ, true, Some, None, Result, Ok, codes}
use Rattle.pt_types.specs.Times.{nanos}
use Rattle.pt_types.specs.declared.time.Clock.TheVariants.{Real}
use Rattle.pt_types.specs.declared.call.Call.TheVariants as call
use Rattle.pt_types.specs.declared.call.MutexKind.TheVariants.{Normal}
use Rattle.pt_types.specs.declared.outcome.Outcome.{Outcome}
use Rattle.pt_types.specs.declared.outcome.Outcome.TheVariants.{Done, Eownerdead}
use Rattle.pt_types.specs.declared.outcome.Refusal.{Refusal}
use Rattle.pt_model.specs.declared.entry.Entry.{Entry}
use Rattle.pt_model.specs.declared.entry.Entry.TheVariants.{Join, Call, Death, Moment, Grant, Yield}
use Rattle.pt_model.specs.declared.entry.Entry.TheVariants.{Expire}
use Rattle.pt_model.specs.declared.entry.Event.{Event}
use Rattle.pt_model.specs.declared.entry.Event.TheVariants as event
use Rattle.pt_model.specs.Histories.{Begin}
use Rattle.pt_model.specs.Starts.{empty_start}
use Rattle.pt_examples.specs.Play.{play, outcomes_in, at}

abbrev pub named_c : List ℕ
named_c = codes "c"

abbrev pub named_m : List ℕ
named_m = codes "m"

-- the events of the row
abbrev pub events : List Event
events =
    event.Join 10
    ∷ event.Join 10
    ∷ event.Call 0 (call.MutexInit named_m Normal true)
    ∷ event.Call 0 (call.CondInit named_c)
    ∷ event.Call 0 (call.Lock named_m)
    ∷ event.Call 0 (call.Timedwait named_c named_m (at 5 0))
    ∷ event.Call 1 (call.Lock named_m)
    ∷ event.Moment Real (nanos 5 0)
    ∷ event.Death 1
    ∷ []

-- the entries that each event writes, or its refusal
abbrev pub entered : List (Result (List Entry) Refusal)
entered =
    Ok (Join 0 10 ∷ [])
    ∷ Ok (Join 1 10 ∷ [])
    ∷ Ok (Call 0 (call.MutexInit named_m Normal true) (Some Done) ∷ [])
    ∷ Ok (Call 0 (call.CondInit named_c) (Some Done) ∷ [])
    ∷ Ok (Call 0 (call.Lock named_m) None ∷ Grant 4 Done ∷ [])
    ∷ Ok (Call 0 (call.Timedwait named_c named_m (at 5 0)) None ∷ [])
    ∷ Ok (Call 1 (call.Lock named_m) None ∷ Grant 7 Done ∷ [])
    ∷ Ok (Moment Real (nanos 5 0) ∷ Expire 6 ∷ [])
    ∷ Ok (Death 1 ∷ Yield 2 ∷ Grant 6 Eownerdead ∷ [])
    ∷ []

-- the answers that each accepted event gives, each with its client
abbrev pub outcomes : List (List (ℕ × Outcome))
outcomes =
    []
    ∷ []
    ∷ ((0, Done) ∷ [])
    ∷ ((0, Done) ∷ [])
    ∷ ((0, Done) ∷ [])
    ∷ []
    ∷ ((1, Done) ∷ [])
    ∷ []
    ∷ ((0, Eownerdead) ∷ [])
    ∷ []

-- the definitions alone give these entries and answers for the events
abbrev pub IsPlayed13 : Type 0
IsPlayed13 = (play (Begin empty_start) events ≡ entered) × (outcomes_in (Begin empty_start) entered
    ≡ outcomes)
