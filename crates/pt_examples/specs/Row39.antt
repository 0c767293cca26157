-- Row39: what a dead client held stays held, and the death is reported, after a seal.
use Rattle.std.specs.Prelude.{◌≡◌, List, [], ◌∷◌, ℕ, true, false, Some, None, Result, Ok, codes}
use Rattle.pt_types.specs.declared.call.Call.TheVariants as call
use Rattle.pt_types.specs.declared.call.MutexKind.TheVariants.{Normal}
use Rattle.pt_types.specs.declared.outcome.Outcome.{Outcome}
use Rattle.pt_types.specs.declared.outcome.Outcome.TheVariants.{Done, Ebusy, Eownerdead}
use Rattle.pt_types.specs.declared.outcome.Refusal.{Refusal}
use Rattle.pt_model.specs.declared.entry.Entry.{Entry}
use Rattle.pt_model.specs.declared.entry.Entry.TheVariants.{Join, Call, Death, Grant, Yield}
use Rattle.pt_model.specs.declared.entry.Event.{Event}
use Rattle.pt_model.specs.declared.entry.Event.TheVariants as event
use Rattle.pt_model.specs.Histories.{History, Begin, history}
use Rattle.pt_model.specs.Starts.{empty_start}
use Rattle.pt_model.specs.Forced.{forced}
use Rattle.pt_examples.specs.Play.{settled_by, entries_in}
use Rattle.pt_examples.specs.SealedPlay.{Plays, after_seal}

abbrev pub named_k : List ℕ
named_k = codes "k"

abbrev pub named_m : List ℕ
named_m = codes "m"

abbrev pub named_q : List ℕ
named_q = codes "q"

abbrev pub named_r : List ℕ
named_r = codes "r"

-- the events up to the seal
abbrev pub events : List Event
events =
    event.Join 10
    ∷ event.Join 10
    ∷ event.Call 0 (call.MutexInit named_m Normal true)
    ∷ event.Call 0 (call.MutexInit named_k Normal false)
    ∷ event.Call 0 (call.RwlockInit named_r)
    ∷ event.Call 0 (call.RwlockInit named_q)
    ∷ event.Call 0 (call.Lock named_m)
    ∷ event.Call 0 (call.Lock named_k)
    ∷ event.Call 0 (call.Wrlock named_r)
    ∷ event.Call 0 (call.Rdlock named_q)
    ∷ event.Death 0
    ∷ []

-- the entries that each event writes, or its refusal
abbrev pub entered : List (Result (List Entry) Refusal)
entered =
    Ok (Join 0 10 ∷ [])
    ∷ Ok (Join 1 10 ∷ [])
    ∷ Ok (Call 0 (call.MutexInit named_m Normal true) (Some Done) ∷ [])
    ∷ Ok (Call 0 (call.MutexInit named_k Normal false) (Some Done) ∷ [])
    ∷ Ok (Call 0 (call.RwlockInit named_r) (Some Done) ∷ [])
    ∷ Ok (Call 0 (call.RwlockInit named_q) (Some Done) ∷ [])
    ∷ Ok (Call 0 (call.Lock named_m) None ∷ Grant 6 Done ∷ [])
    ∷ Ok (Call 0 (call.Lock named_k) None ∷ Grant 8 Done ∷ [])
    ∷ Ok (Call 0 (call.Wrlock named_r) None ∷ Grant 10 Done ∷ [])
    ∷ Ok (Call 0 (call.Rdlock named_q) None ∷ Grant 12 Done ∷ [])
    ∷ Ok (Death 0 ∷ Yield 2 ∷ [])
    ∷ []

-- the answers that each accepted event gives, each with its client
abbrev pub outcomes : List (List (ℕ × Outcome))
outcomes =
    []
    ∷ []
    ∷ ((0, Done) ∷ [])
    ∷ ((0, Done) ∷ [])
    ∷ ((0, Done) ∷ [])
    ∷ ((0, Done) ∷ [])
    ∷ ((0, Done) ∷ [])
    ∷ ((0, Done) ∷ [])
    ∷ ((0, Done) ∷ [])
    ∷ ((0, Done) ∷ [])
    ∷ []
    ∷ []

-- the events after the seal
abbrev pub later_events : List Event
later_events =
    event.Call 1 (call.Trylock named_k)
    ∷ event.Call 1 (call.Tryrdlock named_r)
    ∷ event.Call 1 (call.Trywrlock named_q)
    ∷ event.Call 1 (call.Lock named_m)
    ∷ []

-- the entries that each later event writes
abbrev pub later_entered : List (Result (List Entry) Refusal)
later_entered =
    Ok (Call 1 (call.Trylock named_k) (Some Ebusy) ∷ [])
    ∷ Ok (Call 1 (call.Tryrdlock named_r) (Some Ebusy) ∷ [])
    ∷ Ok (Call 1 (call.Trywrlock named_q) (Some Ebusy) ∷ [])
    ∷ Ok (Call 1 (call.Lock named_m) None ∷ Grant 19 Eownerdead ∷ [])
    ∷ []

-- the answers that each later event gives, each with its client
abbrev pub later_outcomes : List (List (ℕ × Outcome))
later_outcomes =
    ((1, Ebusy) ∷ [])
    ∷ ((1, Ebusy) ∷ [])
    ∷ ((1, Ebusy) ∷ [])
    ∷ ((1, Eownerdead) ∷ [])
    ∷ []

-- the definitions alone give these entries and answers for the events, with a seal between the two
-- parts and without one
abbrev pub IsPlayed39 : Type 0
IsPlayed39 =
    Plays (Begin empty_start) events entered outcomes
    × Plays (after_seal (history (entries_in entered))) later_events later_entered later_outcomes
    × Plays (history (entries_in entered)) later_events later_entered later_outcomes

-- a client dies while another waits for its mutex, and the Yield isn't written yet
abbrev pub orphaned : List Entry
orphaned =
    Join 0 10
    ∷ Join 1 10
    ∷ Call 0 (call.MutexInit named_m Normal true) (Some Done)
    ∷ Call 0 (call.Lock named_m) None
    ∷ Grant 3 Done
    ∷ Call 1 (call.Lock named_m) None
    ∷ Death 0
    ∷ []

-- the entries that must follow after h
abbrev pub following : History → List Entry
following h = settled_by 20 h (forced h)

-- after a seal at that point the Yield is written, and the other client learns of the death
abbrev pub IsYielded39 : Type 0
IsYielded39 = following (after_seal (history orphaned)) ≡ Yield 2 ∷ Grant 5 Eownerdead ∷ []
