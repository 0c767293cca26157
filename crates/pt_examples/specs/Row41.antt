-- Row41: both clocks count on after a seal.
use Rattle.std.specs.Prelude.{List, [], ◌∷◌, ℕ, false, Some, None, Result, Ok, codes}
use Rattle.pt_types.specs.Times.{nanos}
use Rattle.pt_types.specs.declared.time.Clock.TheVariants.{Real, Mono}
use Rattle.pt_types.specs.declared.call.Call.TheVariants as call
use Rattle.pt_types.specs.declared.call.MutexKind.TheVariants.{Normal}
use Rattle.pt_types.specs.declared.outcome.Outcome.{Outcome}
use Rattle.pt_types.specs.declared.outcome.Outcome.TheVariants.{Done, Etimedout}
use Rattle.pt_types.specs.declared.outcome.Refusal.{Refusal}
use Rattle.pt_model.specs.declared.entry.Entry.{Entry}
use Rattle.pt_model.specs.declared.entry.Entry.TheVariants.{Join, Call, Moment, Grant, Expire}
use Rattle.pt_model.specs.declared.entry.Event.{Event}
use Rattle.pt_model.specs.declared.entry.Event.TheVariants as event
use Rattle.pt_model.specs.Histories.{Begin, history}
use Rattle.pt_model.specs.Starts.{empty_start}
use Rattle.pt_examples.specs.Play.{entries_in, at}
use Rattle.pt_examples.specs.SealedPlay.{Plays, after_seal}

abbrev pub named_m : List ℕ
named_m = codes "m"

-- the events up to the seal
abbrev pub events : List Event
events =
    event.Join 10
    ∷ event.Join 10
    ∷ event.Join 10
    ∷ event.Call 0 (call.MutexInit named_m Normal false)
    ∷ event.Call 0 (call.Lock named_m)
    ∷ event.Moment Real (nanos 9 0)
    ∷ event.Moment Mono (nanos 5 0)
    ∷ event.Call 2 (call.Clocklock named_m Mono (at 6 0))
    ∷ []

-- the entries that each event writes, or its refusal
abbrev pub entered : List (Result (List Entry) Refusal)
entered =
    Ok (Join 0 10 ∷ [])
    ∷ Ok (Join 1 10 ∷ [])
    ∷ Ok (Join 2 10 ∷ [])
    ∷ Ok (Call 0 (call.MutexInit named_m Normal false) (Some Done) ∷ [])
    ∷ Ok (Call 0 (call.Lock named_m) None ∷ Grant 4 Done ∷ [])
    ∷ Ok (Moment Real (nanos 9 0) ∷ [])
    ∷ Ok (Moment Mono (nanos 5 0) ∷ [])
    ∷ Ok (Call 2 (call.Clocklock named_m Mono (at 6 0)) None ∷ [])
    ∷ []

-- the answers that each accepted event gives, each with its client
abbrev pub outcomes : List (List (ℕ × Outcome))
outcomes =
    []
    ∷ []
    ∷ []
    ∷ ((0, Done) ∷ [])
    ∷ ((0, Done) ∷ [])
    ∷ []
    ∷ []
    ∷ []
    ∷ []

-- the events after the seal
abbrev pub later_events : List Event
later_events =
    event.Call 1 (call.Timedlock named_m (at 9 0))
    ∷ event.Call 1 (call.Clocklock named_m Mono (at 5 0))
    ∷ event.Moment Real (nanos 3 0)
    ∷ event.Call 1 (call.Timedlock named_m (at 8 999999999))
    ∷ event.Call 1 (call.Clocklock named_m Mono (at 5 1))
    ∷ event.Moment Real (nanos 20 0)
    ∷ event.Moment Mono (nanos 6 0)
    ∷ []

-- the entries that each later event writes
abbrev pub later_entered : List (Result (List Entry) Refusal)
later_entered =
    Ok (Call 1 (call.Timedlock named_m (at 9 0)) None ∷ Expire 9 ∷ [])
    ∷ Ok (Call 1 (call.Clocklock named_m Mono (at 5 0)) None ∷ Expire 11 ∷ [])
    ∷ Ok (Moment Real (nanos 3 0) ∷ [])
    ∷ Ok (Call 1 (call.Timedlock named_m (at 8 999999999)) None ∷ Expire 14 ∷ [])
    ∷ Ok (Call 1 (call.Clocklock named_m Mono (at 5 1)) None ∷ [])
    ∷ Ok (Moment Real (nanos 20 0) ∷ [])
    ∷ Ok (Moment Mono (nanos 6 0) ∷ Expire 16 ∷ Expire 8 ∷ [])
    ∷ []

-- the answers that each later event gives, each with its client
abbrev pub later_outcomes : List (List (ℕ × Outcome))
later_outcomes =
    ((1, Etimedout) ∷ [])
    ∷ ((1, Etimedout) ∷ [])
    ∷ []
    ∷ ((1, Etimedout) ∷ [])
    ∷ []
    ∷ []
    ∷ ((1, Etimedout) ∷ (2, Etimedout) ∷ [])
    ∷ []

-- the definitions alone give these entries and answers for the events, with a seal between the two
-- parts and without one
abbrev pub IsPlayed41 : Type 0
IsPlayed41 =
    Plays (Begin empty_start) events entered outcomes
    × Plays (after_seal (history (entries_in entered))) later_events later_entered later_outcomes
    × Plays (history (entries_in entered)) later_events later_entered later_outcomes
