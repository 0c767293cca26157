-- Row19: conditions: nobody waits, EPERM, another mutex, EBUSY.
use Rattle.std.specs.Prelude.{◌≡◌, List, [], ◌∷◌, ℕ, false, Some, None, Result, Ok, codes}
use Rattle.pt_types.specs.declared.call.Call.TheVariants as call
use Rattle.pt_types.specs.declared.call.MutexKind.TheVariants.{Normal}
use Rattle.pt_types.specs.declared.outcome.Outcome.{Outcome}
use Rattle.pt_types.specs.declared.outcome.Outcome.TheVariants.{Done, Eperm, Einval, Ebusy}
use Rattle.pt_types.specs.declared.outcome.Refusal.{Refusal}
use Rattle.pt_model.specs.declared.entry.Entry.{Entry}
use Rattle.pt_model.specs.declared.entry.Entry.TheVariants.{Join, Call, Grant}
use Rattle.pt_model.specs.declared.entry.Event.{Event}
use Rattle.pt_model.specs.declared.entry.Event.TheVariants as event
use Rattle.pt_model.specs.Histories.{Begin}
use Rattle.pt_model.specs.Starts.{empty_start}
use Rattle.pt_examples.specs.Play.{play, outcomes_in}

abbrev pub named_c : List ℕ
named_c = codes "c"

abbrev pub named_k : List ℕ
named_k = codes "k"

abbrev pub named_m : List ℕ
named_m = codes "m"

-- the events of the row
abbrev pub events : List Event
events =
    event.Join 10
    ∷ event.Join 10
    ∷ event.Call 0 (call.MutexInit named_m Normal false)
    ∷ event.Call 0 (call.MutexInit named_k Normal false)
    ∷ event.Call 0 (call.CondInit named_c)
    ∷ event.Call 0 (call.Signal named_c)
    ∷ event.Call 0 (call.Wait named_c named_m)
    ∷ event.Call 0 (call.Lock named_m)
    ∷ event.Call 0 (call.Wait named_c named_m)
    ∷ event.Call 1 (call.Lock named_k)
    ∷ event.Call 1 (call.Wait named_c named_k)
    ∷ event.Call 1 (call.MutexDestroy named_m)
    ∷ event.Call 1 (call.CondDestroy named_c)
    ∷ event.Call 1 (call.Signal named_c)
    ∷ event.Call 1 (call.CondDestroy named_c)
    ∷ []

-- the entries that each event writes, or its refusal
abbrev pub entered : List (Result (List Entry) Refusal)
entered =
    Ok (Join 0 10 ∷ [])
    ∷ Ok (Join 1 10 ∷ [])
    ∷ Ok (Call 0 (call.MutexInit named_m Normal false) (Some Done) ∷ [])
    ∷ Ok (Call 0 (call.MutexInit named_k Normal false) (Some Done) ∷ [])
    ∷ Ok (Call 0 (call.CondInit named_c) (Some Done) ∷ [])
    ∷ Ok (Call 0 (call.Signal named_c) (Some Done) ∷ [])
    ∷ Ok (Call 0 (call.Wait named_c named_m) (Some Eperm) ∷ [])
    ∷ Ok (Call 0 (call.Lock named_m) None ∷ Grant 7 Done ∷ [])
    ∷ Ok (Call 0 (call.Wait named_c named_m) None ∷ [])
    ∷ Ok (Call 1 (call.Lock named_k) None ∷ Grant 10 Done ∷ [])
    ∷ Ok (Call 1 (call.Wait named_c named_k) (Some Einval) ∷ [])
    ∷ Ok (Call 1 (call.MutexDestroy named_m) (Some Ebusy) ∷ [])
    ∷ Ok (Call 1 (call.CondDestroy named_c) (Some Ebusy) ∷ [])
    ∷ Ok (Call 1 (call.Signal named_c) (Some Done) ∷ Grant 9 Done ∷ [])
    ∷ Ok (Call 1 (call.CondDestroy named_c) (Some Done) ∷ [])
    ∷ []

-- the answers that each accepted event gives, each with its client
abbrev pub outcomes : List (List (ℕ × Outcome))
outcomes =
    []
    ∷ []
    ∷ ((0, Done) ∷ [])
    ∷ ((0, Done) ∷ [])
    ∷ ((0, Done) ∷ [])
    ∷ ((0, Done) ∷ [])
    ∷ ((0, Eperm) ∷ [])
    ∷ ((0, Done) ∷ [])
    ∷ []
    ∷ ((1, Done) ∷ [])
    ∷ ((1, Einval) ∷ [])
    ∷ ((1, Ebusy) ∷ [])
    ∷ ((1, Ebusy) ∷ [])
    ∷ ((1, Done) ∷ (0, Done) ∷ [])
    ∷ ((1, Done) ∷ [])
    ∷ []

-- the definitions alone give these entries and answers for the events
abbrev pub IsPlayed19 : Type 0
IsPlayed19 = (play (Begin empty_start) events ≡ entered) × (outcomes_in (Begin empty_start) entered
    ≡ outcomes)
