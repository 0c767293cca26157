-- SealedAlike: rows that are the same if the history is sealed between their events.
use Rattle.std.specs.Prelude.{◌≡◌, ℕ, List, [], ◌∷◌, map, Result}
use Rattle.pt_types.specs.declared.outcome.Outcome.{Outcome}
use Rattle.pt_types.specs.declared.outcome.Refusal.{Refusal}
use Rattle.pt_model.specs.declared.entry.Entry.{Entry}
use Rattle.pt_model.specs.declared.entry.Event.{Event}
use Rattle.pt_model.specs.Histories.{Begin}
use Rattle.pt_model.specs.Starts.{empty_start}
use Rattle.pt_examples.specs.SealedPlay.{play_sealing, entries_of, outcomes_of, seals_of}
use Rattle.pt_examples.specs.Row2 as row_2
use Rattle.pt_examples.specs.Row3 as row_3
use Rattle.pt_examples.specs.Row5 as row_5
use Rattle.pt_examples.specs.Row6 as row_6
use Rattle.pt_examples.specs.Row7 as row_7
use Rattle.pt_examples.specs.Row8 as row_8
use Rattle.pt_examples.specs.Row9 as row_9
use Rattle.pt_examples.specs.Row10 as row_10
use Rattle.pt_examples.specs.Row11 as row_11
use Rattle.pt_examples.specs.Row12 as row_12
use Rattle.pt_examples.specs.Row13 as row_13
use Rattle.pt_examples.specs.Row14 as row_14
use Rattle.pt_examples.specs.Row15 as row_15
use Rattle.pt_examples.specs.Row16 as row_16
use Rattle.pt_examples.specs.Row18 as row_18
use Rattle.pt_examples.specs.Row19 as row_19
use Rattle.pt_examples.specs.Row20 as row_20

-- with at most this many entries after each seal, the history is sealed at these places, and the
-- entries, their places and the answers are those of a history without seals
abbrev pub IsAlike :
    (limit : ℕ) (seals : List ℕ) (events : List Event)
    (entered : List (Result (List Entry) Refusal)) (outcomes : List (List (ℕ × Outcome)))
    → Type 0
IsAlike limit seals events entered outcomes =
    let ps = play_sealing limit (Begin empty_start) events in
    (map entries_of ps ≡ entered) × (outcomes_of ps ≡ outcomes) × (seals_of ps ≡ seals)

abbrev pub IsAlike2 : Type 0
IsAlike2 =
    IsAlike 30 [] row_2.events row_2.entered row_2.outcomes
    × IsAlike 6 (3 ∷ 5 ∷ 6 ∷ []) row_2.events row_2.entered row_2.outcomes

abbrev pub IsAlike3 : Type 0
IsAlike3 =
    IsAlike 30 [] row_3.events row_3.entered row_3.outcomes
    × IsAlike 14 (7 ∷ 9 ∷ 10 ∷ []) row_3.events row_3.entered row_3.outcomes

abbrev pub IsAlike5 : Type 0
IsAlike5 =
    IsAlike 30 [] row_5.events row_5.entered row_5.outcomes
    × IsAlike 11 (6 ∷ 7 ∷ 13 ∷ []) row_5.events row_5.entered row_5.outcomes

abbrev pub IsAlike6 : Type 0
IsAlike6 =
    IsAlike 30 [] row_6.events row_6.entered row_6.outcomes
    × IsAlike 11 (6 ∷ 7 ∷ []) row_6.events row_6.entered row_6.outcomes

abbrev pub IsAlike7 : Type 0
IsAlike7 =
    IsAlike 30 [] row_7.events row_7.entered row_7.outcomes
    × IsAlike 11 (6 ∷ 7 ∷ []) row_7.events row_7.entered row_7.outcomes

abbrev pub IsAlike8 : Type 0
IsAlike8 =
    IsAlike 30 [] row_8.events row_8.entered row_8.outcomes
    × IsAlike 14 (7 ∷ 9 ∷ 11 ∷ 15 ∷ []) row_8.events row_8.entered row_8.outcomes

abbrev pub IsAlike9 : Type 0
IsAlike9 =
    IsAlike 30 [] row_9.events row_9.entered row_9.outcomes
    × IsAlike 10 (4 ∷ 7 ∷ 8 ∷ []) row_9.events row_9.entered row_9.outcomes

abbrev pub IsAlike10 : Type 0
IsAlike10 =
    IsAlike 30 [] row_10.events row_10.entered row_10.outcomes
    × IsAlike 10 (5 ∷ 9 ∷ 13 ∷ []) row_10.events row_10.entered row_10.outcomes

abbrev pub IsAlike11 : Type 0
IsAlike11 =
    IsAlike 30 [] row_11.events row_11.entered row_11.outcomes
    × IsAlike 9 (5 ∷ 8 ∷ []) row_11.events row_11.entered row_11.outcomes

abbrev pub IsAlike12 : Type 0
IsAlike12 =
    IsAlike 30 [] row_12.events row_12.entered row_12.outcomes
    × IsAlike 10 (4 ∷ 7 ∷ 8 ∷ 9 ∷ []) row_12.events row_12.entered row_12.outcomes

abbrev pub IsAlike13 : Type 0
IsAlike13 =
    IsAlike 30 [] row_13.events row_13.entered row_13.outcomes
    × IsAlike 9 (4 ∷ 7 ∷ []) row_13.events row_13.entered row_13.outcomes

abbrev pub IsAlike14 : Type 0
IsAlike14 =
    IsAlike 30 [] row_14.events row_14.entered row_14.outcomes
    × IsAlike 13 (6 ∷ 9 ∷ []) row_14.events row_14.entered row_14.outcomes

abbrev pub IsAlike15 : Type 0
IsAlike15 =
    IsAlike 30 [] row_15.events row_15.entered row_15.outcomes
    × IsAlike 6 (4 ∷ 8 ∷ []) row_15.events row_15.entered row_15.outcomes

abbrev pub IsAlike16 : Type 0
IsAlike16 =
    IsAlike 30 [] row_16.events row_16.entered row_16.outcomes
    × IsAlike 6 (3 ∷ 5 ∷ 8 ∷ []) row_16.events row_16.entered row_16.outcomes

abbrev pub IsAlike18 : Type 0
IsAlike18 =
    IsAlike 30 (16 ∷ []) row_18.events row_18.entered row_18.outcomes
    × IsAlike 18 (10 ∷ 15 ∷ 16 ∷ 18 ∷ []) row_18.events row_18.entered row_18.outcomes

abbrev pub IsAlike19 : Type 0
IsAlike19 =
    IsAlike 30 [] row_19.events row_19.entered row_19.outcomes
    × IsAlike 9 (7 ∷ 10 ∷ 14 ∷ []) row_19.events row_19.entered row_19.outcomes

abbrev pub IsAlike20 : Type 0
IsAlike20 =
    IsAlike 30 [] row_20.events row_20.entered row_20.outcomes
    × IsAlike 6 (3 ∷ 7 ∷ 12 ∷ []) row_20.events row_20.entered row_20.outcomes
