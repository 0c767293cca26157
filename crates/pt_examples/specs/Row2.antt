-- Row2: the reply comes before the grant.
use Rattle.std.specs.Prelude.{◌≡◌, List, [], ◌∷◌, ℕ, false, Some, None, Result, Ok, codes}
use Rattle.pt_types.specs.declared.call.Call.TheVariants as call
use Rattle.pt_types.specs.declared.call.MutexKind.TheVariants.{Normal}
use Rattle.pt_types.specs.declared.outcome.Outcome.{Outcome}
use Rattle.pt_types.specs.declared.outcome.Outcome.TheVariants.{Done}
use Rattle.pt_types.specs.declared.outcome.Refusal.{Refusal}
use Rattle.pt_model.specs.declared.entry.Entry.{Entry}
use Rattle.pt_model.specs.declared.entry.Entry.TheVariants.{Join, Call, Grant}
use Rattle.pt_model.specs.declared.entry.Event.{Event}
use Rattle.pt_model.specs.declared.entry.Event.TheVariants as event
use Rattle.pt_model.specs.Histories.{Begin}
use Rattle.pt_model.specs.Starts.{empty_start}
use Rattle.pt_model.specs.Legal.{Legal}
use Rattle.pt_examples.specs.Play.{play, outcomes_in, entries_in, accepted_of}

abbrev pub named_m : List ℕ
named_m = codes "m"

-- the events of the row
abbrev pub events : List Event
events =
    event.Join 10
    ∷ event.Join 20
    ∷ event.Call 0 (call.MutexInit named_m Normal false)
    ∷ event.Call 0 (call.Lock named_m)
    ∷ event.Call 1 (call.Lock named_m)
    ∷ event.Call 0 (call.Unlock named_m)
    ∷ []

-- the entries that each event writes, or its refusal
abbrev pub entered : List (Result (List Entry) Refusal)
entered =
    Ok (Join 0 10 ∷ [])
    ∷ Ok (Join 1 20 ∷ [])
    ∷ Ok (Call 0 (call.MutexInit named_m Normal false) (Some Done) ∷ [])
    ∷ Ok (Call 0 (call.Lock named_m) None ∷ Grant 3 Done ∷ [])
    ∷ Ok (Call 1 (call.Lock named_m) None ∷ [])
    ∷ Ok (Call 0 (call.Unlock named_m) (Some Done) ∷ Grant 5 Done ∷ [])
    ∷ []

-- the answers that each accepted event gives, each with its client
abbrev pub outcomes : List (List (ℕ × Outcome))
outcomes =
    []
    ∷ []
    ∷ ((0, Done) ∷ [])
    ∷ ((0, Done) ∷ [])
    ∷ []
    ∷ ((0, Done) ∷ (1, Done) ∷ [])
    ∷ []

-- the definitions alone give these entries and answers for the events
abbrev pub IsPlayed2 : Type 0
IsPlayed2 = (play (Begin empty_start) events ≡ entered) × (outcomes_in (Begin empty_start) entered
    ≡ outcomes)

-- the entries are the history of the accepted events
abbrev pub IsLegal2 : Type 0
IsLegal2 = Legal (entries_in entered) (accepted_of events entered)
