-- SealedRows: the room in short histories that are sealed if they need it.
use Rattle.std.specs.Prelude.{◌≡◌, ℕ, true, List, [], ◌∷◌, ◌++◌, Ok, Err, codes}
use Rattle.pt_types.specs.Times.{nanos}
use Rattle.pt_types.specs.declared.time.Clock.TheVariants.{Real}
use Rattle.pt_types.specs.declared.call.Call.TheVariants as call
use Rattle.pt_types.specs.declared.call.MutexKind.TheVariants.{Normal}
use Rattle.pt_types.specs.declared.outcome.Refusal.TheVariants.{Dead, Nohello, Full}
use Rattle.pt_model.specs.declared.entry.Event.{Event}
use Rattle.pt_model.specs.declared.entry.Event.TheVariants as event
use Rattle.pt_model.specs.Histories.{History, Begin}
use Rattle.pt_model.specs.Starts.{empty_start}
use Rattle.pt_model.specs.Seals.{seal}
use Rattle.pt_examples.specs.SealedPlay.{after_seal, play_sealing, last_of, lengths_sealing}

abbrev pub named_m : List ℕ
named_m = codes "m"

abbrev pub first : List Event
first =
    event.Join 10
    ∷ event.Call 0 (call.MutexInit named_m Normal true)
    ∷ event.Call 0 (call.Lock named_m)
    ∷ []

abbrev pub moments : List Event
moments = event.Moment Real (nanos 1 0) ∷ event.Moment Real (nanos 2 0) ∷ []

abbrev pub second : List Event
second =
    event.Call 0 (call.Unlock named_m)
    ∷ event.Call 0 (call.Lock named_m)
    ∷ moments
    ++ event.Death 0
    ∷ []

abbrev pub strangers : List Event
strangers = event.Death 0 ∷ event.Death 11 ∷ []

-- with at most seven entries after each seal, the second lock comes after a seal
abbrev pub IsSealedAtSeven : Type 0
IsSealedAtSeven =
    lengths_sealing 7 (first ++ second ++ strangers)
    ≡ Ok (1, 1) ∷ Ok (2, 2) ∷ Ok (4, 4) ∷ Ok (5, 5) ∷ Ok (7, 2) ∷ Ok (8, 3) ∷ Ok (9, 4)
    ∷ Ok (11, 6) ∷ Err Dead ∷ Err Nohello ∷ []

-- the history after these events
abbrev pub at_last : History
at_last = last_of (Begin empty_start) (play_sealing 7 (Begin empty_start) (first ++ second))

-- a seal goes on with the next place, and so does a seal of that; the outer entries of all
-- histories are counted
abbrev pub IsTwiceSealed : Type 0
IsTwiceSealed =
    ((seal at_last).at ≡ 11)
    × ((seal (after_seal at_last)).at ≡ 11)
    × ((seal (after_seal at_last)).outer ≡ 8)

-- with the same limit, if a Yield may still have to be written, the second moment comes after a
-- seal
abbrev pub IsSealedBeforeYield : Type 0
IsSealedBeforeYield =
    lengths_sealing 7 (first ++ moments ++ event.Death 0 ∷ [])
    ≡ Ok (1, 1) ∷ Ok (2, 2) ∷ Ok (4, 4) ∷ Ok (5, 5) ∷ Ok (6, 1) ∷ Ok (8, 3) ∷ []

-- with at most six entries the first lock comes after a seal
abbrev pub IsSealedAtSix : Type 0
IsSealedAtSix = lengths_sealing 6 first ≡ Ok (1, 1) ∷ Ok (2, 2) ∷ Ok (4, 2) ∷ []

-- with at most four entries a seal makes no room for the lock, so no seal is made; the second
-- moment comes after a seal
abbrev pub IsSealedAtFour : Type 0
IsSealedAtFour =
    lengths_sealing 4 (first ++ moments)
    ≡ Ok (1, 1) ∷ Ok (2, 2) ∷ Err Full ∷ Ok (3, 3) ∷ Ok (4, 1) ∷ []

-- with at most one entry nobody can join, and each moment but the first comes after a seal
abbrev pub IsSealedAtOne : Type 0
IsSealedAtOne =
    lengths_sealing 1 (event.Join 10 ∷ moments) ≡ Err Full ∷ Ok (1, 1) ∷ Ok (2, 1) ∷ []

-- with no entries a seal makes no room for anything
abbrev pub IsSealedAtNone : Type 0
IsSealedAtNone = lengths_sealing 0 moments ≡ Err Full ∷ Err Full ∷ []
