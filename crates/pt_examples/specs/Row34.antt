-- Row34: a signal taken by a client that dies is not passed on.
use Rattle.std.specs.Prelude.{◌≡◌, List, [], ◌∷◌, ℕ, false, Some, None, Result, Ok, codes}
use Rattle.pt_types.specs.declared.call.Call.TheVariants as call
use Rattle.pt_types.specs.declared.call.MutexKind.TheVariants.{Normal}
use Rattle.pt_types.specs.declared.outcome.Outcome.{Outcome}
use Rattle.pt_types.specs.declared.outcome.Outcome.TheVariants.{Done}
use Rattle.pt_types.specs.declared.outcome.Refusal.{Refusal}
use Rattle.pt_model.specs.declared.entry.Entry.{Entry}
use Rattle.pt_model.specs.declared.entry.Entry.TheVariants.{Join, Call, Death, Grant}
use Rattle.pt_model.specs.declared.entry.Event.{Event}
use Rattle.pt_model.specs.declared.entry.Event.TheVariants as event
use Rattle.pt_model.specs.Histories.{Begin}
use Rattle.pt_model.specs.Starts.{empty_start}
use Rattle.pt_examples.specs.Play.{play, outcomes_in}

abbrev pub named_c : List ℕ
named_c = codes "c"

abbrev pub named_m : List ℕ
named_m = codes "m"

-- the events of the row
abbrev pub events : List Event
events =
    event.Join 10
    ∷ event.Join 10
    ∷ event.Join 10
    ∷ event.Call 0 (call.MutexInit named_m Normal false)
    ∷ event.Call 0 (call.CondInit named_c)
    ∷ event.Call 0 (call.Lock named_m)
    ∷ event.Call 0 (call.Wait named_c named_m)
    ∷ event.Call 1 (call.Lock named_m)
    ∷ event.Call 1 (call.Wait named_c named_m)
    ∷ event.Call 2 (call.Lock named_m)
    ∷ event.Call 2 (call.Signal named_c)
    ∷ event.Death 0
    ∷ event.Call 2 (call.Unlock named_m)
    ∷ event.Call 2 (call.Signal named_c)
    ∷ []

-- the entries that each event writes, or its refusal
abbrev pub entered : List (Result (List Entry) Refusal)
entered =
    Ok (Join 0 10 ∷ [])
    ∷ Ok (Join 1 10 ∷ [])
    ∷ Ok (Join 2 10 ∷ [])
    ∷ Ok (Call 0 (call.MutexInit named_m Normal false) (Some Done) ∷ [])
    ∷ Ok (Call 0 (call.CondInit named_c) (Some Done) ∷ [])
    ∷ Ok (Call 0 (call.Lock named_m) None ∷ Grant 5 Done ∷ [])
    ∷ Ok (Call 0 (call.Wait named_c named_m) None ∷ [])
    ∷ Ok (Call 1 (call.Lock named_m) None ∷ Grant 8 Done ∷ [])
    ∷ Ok (Call 1 (call.Wait named_c named_m) None ∷ [])
    ∷ Ok (Call 2 (call.Lock named_m) None ∷ Grant 11 Done ∷ [])
    ∷ Ok (Call 2 (call.Signal named_c) (Some Done) ∷ [])
    ∷ Ok (Death 0 ∷ [])
    ∷ Ok (Call 2 (call.Unlock named_m) (Some Done) ∷ [])
    ∷ Ok (Call 2 (call.Signal named_c) (Some Done) ∷ Grant 10 Done ∷ [])
    ∷ []

-- the answers that each accepted event gives, each with its client
abbrev pub outcomes : List (List (ℕ × Outcome))
outcomes =
    []
    ∷ []
    ∷ []
    ∷ ((0, Done) ∷ [])
    ∷ ((0, Done) ∷ [])
    ∷ ((0, Done) ∷ [])
    ∷ []
    ∷ ((1, Done) ∷ [])
    ∷ []
    ∷ ((2, Done) ∷ [])
    ∷ ((2, Done) ∷ [])
    ∷ []
    ∷ ((2, Done) ∷ [])
    ∷ ((2, Done) ∷ (1, Done) ∷ [])
    ∷ []

-- the definitions alone give these entries and answers for the events
abbrev pub IsPlayed34 : Type 0
IsPlayed34 = (play (Begin empty_start) events ≡ entered) × (outcomes_in (Begin empty_start) entered
    ≡ outcomes)
