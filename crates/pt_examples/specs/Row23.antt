-- Row23: the room in a short history, and the refusal FULL.
use Rattle.std.specs.Prelude.{◌≡◌, ℕ, true, List, [], ◌∷◌, ◌++◌, Ok, Err, codes}
use Rattle.pt_types.specs.Times.{nanos}
use Rattle.pt_types.specs.declared.time.Clock.TheVariants.{Real}
use Rattle.pt_types.specs.declared.call.Call.TheVariants as call
use Rattle.pt_types.specs.declared.call.MutexKind.TheVariants.{Normal}
use Rattle.pt_types.specs.declared.outcome.Refusal.TheVariants.{Dead, Nohello, Full}
use Rattle.pt_model.specs.declared.entry.Event.{Event}
use Rattle.pt_model.specs.declared.entry.Event.TheVariants as event
use Rattle.pt_model.specs.Histories.{Begin}
use Rattle.pt_model.specs.Starts.{empty_start}
use Rattle.pt_examples.specs.Play.{lengths}

abbrev pub named_m : List ℕ
named_m = codes "m"

abbrev pub first : List Event
first =
    event.Join 10
    ∷ event.Call 0 (call.MutexInit named_m Normal true)
    ∷ event.Call 0 (call.Lock named_m)
    ∷ []

abbrev pub second : List Event
second =
    event.Call 0 (call.Unlock named_m)
    ∷ event.Call 0 (call.Lock named_m)
    ∷ event.Moment Real (nanos 1 0)
    ∷ event.Moment Real (nanos 2 0)
    ∷ event.Death 0
    ∷ event.Death 0
    ∷ event.Death 9
    ∷ []

abbrev pub third : List Event
third = event.Moment Real (nanos 1 0) ∷ event.Moment Real (nanos 2 0) ∷ event.Death 0 ∷ []

-- the lengths, needs and refusals with at most seven entries
abbrev pub IsFullAtSeven : Type 0
IsFullAtSeven =
    lengths 7 (Begin empty_start) (first ++ second)
    ≡ Ok (1, 1) ∷ Ok (2, 1) ∷ Ok (4, 2) ∷ Ok (5, 1) ∷ Err Full ∷ Ok (6, 1) ∷ Err Full
    ∷ Ok (7, 0) ∷ Err Dead ∷ Err Nohello ∷ []

-- the same, if a Yield may still have to be written
abbrev pub IsFullBeforeYield : Type 0
IsFullBeforeYield =
    lengths 7 (Begin empty_start) (first ++ third)
    ≡ Ok (1, 1) ∷ Ok (2, 1) ∷ Ok (4, 2) ∷ Ok (5, 2) ∷ Err Full ∷ Ok (7, 0) ∷ []

-- with at most six entries there is no room for the lock
abbrev pub IsFullAtSix : Type 0
IsFullAtSix = lengths 6 (Begin empty_start) first ≡ Ok (1, 1) ∷ Ok (2, 1) ∷ Err Full ∷ []

-- with at most one entry nobody can join
abbrev pub IsFullAtOne : Type 0
IsFullAtOne =
    lengths 1 (Begin empty_start) (event.Join 10 ∷ event.Moment Real 1 ∷ event.Moment Real 2 ∷ [])
    ≡ Err Full ∷ Ok (1, 0) ∷ Err Full ∷ []

-- with no entries nothing is accepted
abbrev pub IsFullAtNone : Type 0
IsFullAtNone = lengths 0 (Begin empty_start) (event.Moment Real 1 ∷ []) ≡ Err Full ∷ []
