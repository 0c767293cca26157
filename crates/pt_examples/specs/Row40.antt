-- Row40: after a seal it is known when and why a wait was moved.
use Rattle.std.specs.Prelude.{◌≡◌, List, [], ◌∷◌, ℕ, false, Option, Some, None, Result, Ok, codes}
use Rattle.pt_types.specs.Times.{nanos}
use Rattle.pt_types.specs.declared.time.Clock.TheVariants.{Real}
use Rattle.pt_types.specs.declared.call.Call.TheVariants as call
use Rattle.pt_types.specs.declared.call.MutexKind.TheVariants.{Normal}
use Rattle.pt_types.specs.declared.outcome.Outcome.{Outcome}
use Rattle.pt_types.specs.declared.outcome.Outcome.TheVariants.{Done, Etimedout}
use Rattle.pt_types.specs.declared.outcome.Refusal.{Refusal}
use Rattle.pt_model.specs.declared.entry.Entry.{Entry}
use Rattle.pt_model.specs.declared.entry.Entry.TheVariants.{Join, Call, Moment, Grant, Expire}
use Rattle.pt_model.specs.declared.entry.Event.{Event}
use Rattle.pt_model.specs.declared.entry.Event.TheVariants as event
use Rattle.pt_model.specs.Histories.{Begin, history}
use Rattle.pt_model.specs.Starts.{empty_start}
use Rattle.pt_model.specs.Records.{ReplyView}
use Rattle.pt_model.specs.Queries.{answer_of}
use Rattle.pt_examples.specs.Play.{entries_in, at}
use Rattle.pt_examples.specs.SealedPlay.{Plays, after_seal}

abbrev pub named_c : List ℕ
named_c = codes "c"

abbrev pub named_m : List ℕ
named_m = codes "m"

-- the events up to the seal
abbrev pub events : List Event
events =
    event.Join 10
    ∷ event.Join 10
    ∷ event.Join 10
    ∷ event.Join 10
    ∷ event.Call 0 (call.MutexInit named_m Normal false)
    ∷ event.Call 0 (call.CondInit named_c)
    ∷ event.Call 0 (call.Lock named_m)
    ∷ event.Call 0 (call.Wait named_c named_m)
    ∷ event.Call 1 (call.Lock named_m)
    ∷ event.Call 1 (call.Timedwait named_c named_m (at 5 0))
    ∷ event.Call 2 (call.Lock named_m)
    ∷ event.Moment Real (nanos 5 0)
    ∷ event.Call 3 (call.Lock named_m)
    ∷ event.Call 2 (call.Signal named_c)
    ∷ []

-- the entries that each event writes, or its refusal
abbrev pub entered : List (Result (List Entry) Refusal)
entered =
    Ok (Join 0 10 ∷ [])
    ∷ Ok (Join 1 10 ∷ [])
    ∷ Ok (Join 2 10 ∷ [])
    ∷ Ok (Join 3 10 ∷ [])
    ∷ Ok (Call 0 (call.MutexInit named_m Normal false) (Some Done) ∷ [])
    ∷ Ok (Call 0 (call.CondInit named_c) (Some Done) ∷ [])
    ∷ Ok (Call 0 (call.Lock named_m) None ∷ Grant 6 Done ∷ [])
    ∷ Ok (Call 0 (call.Wait named_c named_m) None ∷ [])
    ∷ Ok (Call 1 (call.Lock named_m) None ∷ Grant 9 Done ∷ [])
    ∷ Ok (Call 1 (call.Timedwait named_c named_m (at 5 0)) None ∷ [])
    ∷ Ok (Call 2 (call.Lock named_m) None ∷ Grant 12 Done ∷ [])
    ∷ Ok (Moment Real (nanos 5 0) ∷ Expire 11 ∷ [])
    ∷ Ok (Call 3 (call.Lock named_m) None ∷ [])
    ∷ Ok (Call 2 (call.Signal named_c) (Some Done) ∷ [])
    ∷ []

-- the answers that each accepted event gives, each with its client
abbrev pub outcomes : List (List (ℕ × Outcome))
outcomes =
    []
    ∷ []
    ∷ []
    ∷ []
    ∷ ((0, Done) ∷ [])
    ∷ ((0, Done) ∷ [])
    ∷ ((0, Done) ∷ [])
    ∷ []
    ∷ ((1, Done) ∷ [])
    ∷ []
    ∷ ((2, Done) ∷ [])
    ∷ []
    ∷ []
    ∷ ((2, Done) ∷ [])
    ∷ []

-- the events after the seal
abbrev pub later_events : List Event
later_events =
    event.Call 2 (call.Unlock named_m)
    ∷ event.Call 1 (call.Unlock named_m)
    ∷ event.Call 3 (call.Unlock named_m)
    ∷ []

-- the entries that each later event writes
abbrev pub later_entered : List (Result (List Entry) Refusal)
later_entered =
    Ok (Call 2 (call.Unlock named_m) (Some Done) ∷ Grant 11 Etimedout ∷ [])
    ∷ Ok (Call 1 (call.Unlock named_m) (Some Done) ∷ Grant 16 Done ∷ [])
    ∷ Ok (Call 3 (call.Unlock named_m) (Some Done) ∷ Grant 8 Done ∷ [])
    ∷ []

-- the answers that each later event gives, each with its client
abbrev pub later_outcomes : List (List (ℕ × Outcome))
later_outcomes =
    ((2, Done) ∷ (1, Etimedout) ∷ [])
    ∷ ((1, Done) ∷ (3, Done) ∷ [])
    ∷ ((3, Done) ∷ (0, Done) ∷ [])
    ∷ []

-- the definitions alone give these entries and answers for the events, with a seal between the two
-- parts and without one
abbrev pub IsPlayed40 : Type 0
IsPlayed40 =
    Plays (Begin empty_start) events entered outcomes
    × Plays (after_seal (history (entries_in entered))) later_events later_entered later_outcomes
    × Plays (history (entries_in entered)) later_events later_entered later_outcomes

-- an answer that was given before the seal
abbrev pub answered : Option ReplyView
answered = Some (record { client = 2; place = 17; outcome = Done })

-- after the seal each latest call has the answer that it had, or still has none
abbrev pub IsAnswered40 : Type 0
IsAnswered40 =
    let h = after_seal (history (entries_in entered)) in
    (answer_of h 2 ≡ answered) × (answer_of h 0 ≡ None)
