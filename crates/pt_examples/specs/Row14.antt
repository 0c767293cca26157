-- Row14: a dead client does not count at its barrier.
use Rattle.std.specs.Prelude.{◌≡◌, List, [], ◌∷◌, ℕ, Some, None, Result, Ok, codes}
use Rattle.pt_types.specs.declared.call.Call.TheVariants as call
use Rattle.pt_types.specs.declared.outcome.Outcome.{Outcome}
use Rattle.pt_types.specs.declared.outcome.Outcome.TheVariants.{Done, Serial, Einval}
use Rattle.pt_types.specs.declared.outcome.Refusal.{Refusal}
use Rattle.pt_model.specs.declared.entry.Entry.{Entry}
use Rattle.pt_model.specs.declared.entry.Entry.TheVariants.{Join, Call, Death, Trip}
use Rattle.pt_model.specs.declared.entry.Event.{Event}
use Rattle.pt_model.specs.declared.entry.Event.TheVariants as event
use Rattle.pt_model.specs.Histories.{Begin}
use Rattle.pt_model.specs.Starts.{empty_start}
use Rattle.pt_examples.specs.Play.{play, outcomes_in}

abbrev pub named_b : List ℕ
named_b = codes "b"

abbrev pub named_d : List ℕ
named_d = codes "d"

abbrev pub named_x : List ℕ
named_x = codes "x"

-- the events of the row
abbrev pub events : List Event
events =
    event.Join 10
    ∷ event.Join 10
    ∷ event.Join 10
    ∷ event.Join 10
    ∷ event.Call 0 (call.BarrierInit named_b 3)
    ∷ event.Call 0 (call.Bwait named_b)
    ∷ event.Call 1 (call.Bwait named_b)
    ∷ event.Death 1
    ∷ event.Call 2 (call.Bwait named_b)
    ∷ event.Call 3 (call.Bwait named_b)
    ∷ event.Call 0 (call.BarrierInit named_d 1)
    ∷ event.Call 0 (call.Bwait named_d)
    ∷ event.Call 0 (call.BarrierInit named_x 0)
    ∷ event.Call 0 (call.BarrierInit named_x 1025)
    ∷ event.Call 0 (call.BarrierInit named_x 1024)
    ∷ []

-- the entries that each event writes, or its refusal
abbrev pub entered : List (Result (List Entry) Refusal)
entered =
    Ok (Join 0 10 ∷ [])
    ∷ Ok (Join 1 10 ∷ [])
    ∷ Ok (Join 2 10 ∷ [])
    ∷ Ok (Join 3 10 ∷ [])
    ∷ Ok (Call 0 (call.BarrierInit named_b 3) (Some Done) ∷ [])
    ∷ Ok (Call 0 (call.Bwait named_b) None ∷ [])
    ∷ Ok (Call 1 (call.Bwait named_b) None ∷ [])
    ∷ Ok (Death 1 ∷ [])
    ∷ Ok (Call 2 (call.Bwait named_b) None ∷ [])
    ∷ Ok (Call 3 (call.Bwait named_b) None ∷ Trip 4 ∷ [])
    ∷ Ok (Call 0 (call.BarrierInit named_d 1) (Some Done) ∷ [])
    ∷ Ok (Call 0 (call.Bwait named_d) None ∷ Trip 11 ∷ [])
    ∷ Ok (Call 0 (call.BarrierInit named_x 0) (Some Einval) ∷ [])
    ∷ Ok (Call 0 (call.BarrierInit named_x 1025) (Some Einval) ∷ [])
    ∷ Ok (Call 0 (call.BarrierInit named_x 1024) (Some Done) ∷ [])
    ∷ []

-- the answers that each accepted event gives, each with its client
abbrev pub outcomes : List (List (ℕ × Outcome))
outcomes =
    []
    ∷ []
    ∷ []
    ∷ []
    ∷ ((0, Done) ∷ [])
    ∷ []
    ∷ []
    ∷ []
    ∷ []
    ∷ ((0, Done) ∷ (2, Done) ∷ (3, Serial) ∷ [])
    ∷ ((0, Done) ∷ [])
    ∷ ((0, Serial) ∷ [])
    ∷ ((0, Einval) ∷ [])
    ∷ ((0, Einval) ∷ [])
    ∷ ((0, Done) ∷ [])
    ∷ []

-- the definitions alone give these entries and answers for the events
abbrev pub IsPlayed14 : Type 0
IsPlayed14 = (play (Begin empty_start) events ≡ entered) × (outcomes_in (Begin empty_start) entered
    ≡ outcomes)
