-- Row20: a writer's own calls, and a lock that a dead client holds.
use Rattle.std.specs.Prelude.{◌≡◌, List, [], ◌∷◌, ℕ, Some, None, Result, Ok, codes}
use Rattle.pt_types.specs.declared.call.Call.TheVariants as call
use Rattle.pt_types.specs.declared.outcome.Outcome.{Outcome}
use Rattle.pt_types.specs.declared.outcome.Outcome.TheVariants.{Done, Eperm, Ebusy, Edeadlk}
use Rattle.pt_types.specs.declared.outcome.Refusal.{Refusal}
use Rattle.pt_model.specs.declared.entry.Entry.{Entry}
use Rattle.pt_model.specs.declared.entry.Entry.TheVariants.{Join, Call, Death, Grant}
use Rattle.pt_model.specs.declared.entry.Event.{Event}
use Rattle.pt_model.specs.declared.entry.Event.TheVariants as event
use Rattle.pt_model.specs.Histories.{Begin}
use Rattle.pt_model.specs.Starts.{empty_start}
use Rattle.pt_examples.specs.Play.{play, outcomes_in}

abbrev pub named_r : List ℕ
named_r = codes "r"

-- the events of the row
abbrev pub events : List Event
events =
    event.Join 10
    ∷ event.Join 10
    ∷ event.Call 0 (call.RwlockInit named_r)
    ∷ event.Call 0 (call.Wrlock named_r)
    ∷ event.Call 0 (call.Rdlock named_r)
    ∷ event.Call 0 (call.Wrlock named_r)
    ∷ event.Call 0 (call.Tryrdlock named_r)
    ∷ event.Call 1 (call.Rwunlock named_r)
    ∷ event.Call 1 (call.RwlockDestroy named_r)
    ∷ event.Death 0
    ∷ event.Call 1 (call.Tryrdlock named_r)
    ∷ event.Call 1 (call.RwlockDestroy named_r)
    ∷ []

-- the entries that each event writes, or its refusal
abbrev pub entered : List (Result (List Entry) Refusal)
entered =
    Ok (Join 0 10 ∷ [])
    ∷ Ok (Join 1 10 ∷ [])
    ∷ Ok (Call 0 (call.RwlockInit named_r) (Some Done) ∷ [])
    ∷ Ok (Call 0 (call.Wrlock named_r) None ∷ Grant 3 Done ∷ [])
    ∷ Ok (Call 0 (call.Rdlock named_r) (Some Edeadlk) ∷ [])
    ∷ Ok (Call 0 (call.Wrlock named_r) (Some Edeadlk) ∷ [])
    ∷ Ok (Call 0 (call.Tryrdlock named_r) (Some Ebusy) ∷ [])
    ∷ Ok (Call 1 (call.Rwunlock named_r) (Some Eperm) ∷ [])
    ∷ Ok (Call 1 (call.RwlockDestroy named_r) (Some Ebusy) ∷ [])
    ∷ Ok (Death 0 ∷ [])
    ∷ Ok (Call 1 (call.Tryrdlock named_r) (Some Ebusy) ∷ [])
    ∷ Ok (Call 1 (call.RwlockDestroy named_r) (Some Done) ∷ [])
    ∷ []

-- the answers that each accepted event gives, each with its client
abbrev pub outcomes : List (List (ℕ × Outcome))
outcomes =
    []
    ∷ []
    ∷ ((0, Done) ∷ [])
    ∷ ((0, Done) ∷ [])
    ∷ ((0, Edeadlk) ∷ [])
    ∷ ((0, Edeadlk) ∷ [])
    ∷ ((0, Ebusy) ∷ [])
    ∷ ((1, Eperm) ∷ [])
    ∷ ((1, Ebusy) ∷ [])
    ∷ []
    ∷ ((1, Ebusy) ∷ [])
    ∷ ((1, Done) ∷ [])
    ∷ []

-- the definitions alone give these entries and answers for the events
abbrev pub IsPlayed20 : Type 0
IsPlayed20 = (play (Begin empty_start) events ≡ entered) × (outcomes_in (Begin empty_start) entered
    ≡ outcomes)
