-- Row12: a writer's deadline passes and lets a reader in.
use Rattle.std.specs.Prelude.{◌≡◌, List, [], ◌∷◌, ℕ, Some, None, Result, Ok, codes}
use Rattle.pt_types.specs.Times.{nanos}
use Rattle.pt_types.specs.declared.time.Clock.TheVariants.{Real}
use Rattle.pt_types.specs.declared.call.Call.TheVariants as call
use Rattle.pt_types.specs.declared.outcome.Outcome.{Outcome}
use Rattle.pt_types.specs.declared.outcome.Outcome.TheVariants.{Done, Etimedout}
use Rattle.pt_types.specs.declared.outcome.Refusal.{Refusal}
use Rattle.pt_model.specs.declared.entry.Entry.{Entry}
use Rattle.pt_model.specs.declared.entry.Entry.TheVariants.{Join, Call, Moment, Grant, Expire}
use Rattle.pt_model.specs.declared.entry.Event.{Event}
use Rattle.pt_model.specs.declared.entry.Event.TheVariants as event
use Rattle.pt_model.specs.Histories.{Begin}
use Rattle.pt_model.specs.Starts.{empty_start}
use Rattle.pt_examples.specs.Play.{play, outcomes_in, at}

abbrev pub named_r : List ℕ
named_r = codes "r"

-- the events of the row
abbrev pub events : List Event
events =
    event.Join 10
    ∷ event.Join 10
    ∷ event.Join 10
    ∷ event.Call 0 (call.RwlockInit named_r)
    ∷ event.Call 0 (call.Rdlock named_r)
    ∷ event.Call 1 (call.Timedwrlock named_r (at 5 0))
    ∷ event.Call 2 (call.Timedrdlock named_r (at 5 0))
    ∷ event.Moment Real (nanos 4 999999999)
    ∷ event.Moment Real (nanos 5 0)
    ∷ []

-- the entries that each event writes, or its refusal
abbrev pub entered : List (Result (List Entry) Refusal)
entered =
    Ok (Join 0 10 ∷ [])
    ∷ Ok (Join 1 10 ∷ [])
    ∷ Ok (Join 2 10 ∷ [])
    ∷ Ok (Call 0 (call.RwlockInit named_r) (Some Done) ∷ [])
    ∷ Ok (Call 0 (call.Rdlock named_r) None ∷ Grant 4 Done ∷ [])
    ∷ Ok (Call 1 (call.Timedwrlock named_r (at 5 0)) None ∷ [])
    ∷ Ok (Call 2 (call.Timedrdlock named_r (at 5 0)) None ∷ [])
    ∷ Ok (Moment Real (nanos 4 999999999) ∷ [])
    ∷ Ok (Moment Real (nanos 5 0) ∷ Expire 6 ∷ Grant 7 Done ∷ [])
    ∷ []

-- the answers that each accepted event gives, each with its client
abbrev pub outcomes : List (List (ℕ × Outcome))
outcomes =
    []
    ∷ []
    ∷ []
    ∷ ((0, Done) ∷ [])
    ∷ ((0, Done) ∷ [])
    ∷ []
    ∷ []
    ∷ []
    ∷ ((1, Etimedout) ∷ (2, Done) ∷ [])
    ∷ []

-- the definitions alone give these entries and answers for the events
abbrev pub IsPlayed12 : Type 0
IsPlayed12 = (play (Begin empty_start) events ≡ entered) × (outcomes_in (Begin empty_start) entered
    ≡ outcomes)
