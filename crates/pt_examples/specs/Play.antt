-- Play: events played by the definitions alone.
use Rattle.std.specs.Prelude.{ℕ, zero, suc, List, [], ◌∷◌, ◌++◌, map, Option, Some, None, Result}
use Rattle.std.specs.Prelude.{Ok, Err}
use Rattle.pt_types.specs.Limits.{max_entries}
use Rattle.pt_types.specs.Times.{Timespec}
use Rattle.pt_types.specs.declared.outcome.Outcome.{Outcome}
use Rattle.pt_types.specs.declared.outcome.Refusal.{Refusal}
use Rattle.pt_model.specs.declared.entry.Entry.{Entry}
use Rattle.pt_model.specs.declared.entry.Event.{Event}
use Rattle.pt_model.specs.Histories.{History, ◌▷◌, place, append_entries}
use Rattle.pt_model.specs.Records.{ReplyView}
use Rattle.pt_model.specs.Answers.{replies_from}
use Rattle.pt_model.specs.Forced.{forced}
use Rattle.pt_model.specs.Room.{need, entry_for, refusal_within}

-- a deadline of these seconds and nanoseconds, as a line has it
abbrev pub at : ℕ → ℕ → Timespec
at s n = record { sec = s; nsec = n }

-- this entry and those that must follow it, at most this many in all
abbrev pub settled_by : ℕ → History → Option Entry → List Entry
settled_by zero h next = []
settled_by (suc n) h None = []
settled_by (suc n) h (Some e) = e ∷ settled_by n (h ▷ e) (forced (h ▷ e))

-- the entries of an accepted event, of which this is the outer one
abbrev pub entered_by : History → Entry → List Entry
entered_by h e = settled_by 20 h (Some e)

-- the entries of an event or its refusal, then those of all later events
abbrev pub played_by :
    History → Event → (History → List (Result (List Entry) Refusal)) → Option Refusal
    → List (Result (List Entry) Refusal)
played_by h v rest (Some r) = Err r ∷ rest h
played_by h v rest None =
    Ok (entered_by h (entry_for h v)) ∷ rest (append_entries h (entered_by h (entry_for h v)))

-- the entries of each event, or its refusal, in a history of at most this many entries
abbrev pub play_within : ℕ → History → List Event → List (Result (List Entry) Refusal)
play_within limit h [] = []
play_within limit h (v ∷ vs) =
    played_by h v (λ g. play_within limit g vs) (refusal_within limit h v)

-- the entries of each event, or its refusal, within the limit of every history
abbrev pub play : History → List Event → List (Result (List Entry) Refusal)
play h vs = play_within max_entries h vs

-- an answer without its place
abbrev pub client_and_outcome : ReplyView → ℕ × Outcome
client_and_outcome t = (t.client, t.outcome)

-- the answers that each accepted event gives, each with its client
abbrev pub outcomes_in : History → List (Result (List Entry) Refusal) → List (List (ℕ × Outcome))
outcomes_in h [] = []
outcomes_in h (Err r ∷ gs) = outcomes_in h gs
outcomes_in h (Ok es ∷ gs) =
    map client_and_outcome (replies_from h es) ∷ outcomes_in (append_entries h es) gs

-- all entries of these events, in order
abbrev pub entries_in : List (Result (List Entry) Refusal) → List Entry
entries_in [] = []
entries_in (Err r ∷ gs) = entries_in gs
entries_in (Ok es ∷ gs) = es ++ entries_in gs

-- those of these events that were accepted
abbrev pub accepted_of : List Event → List (Result (List Entry) Refusal) → List Event
accepted_of [] gs = []
accepted_of (v ∷ vs) [] = []
accepted_of (v ∷ vs) (Err r ∷ gs) = accepted_of vs gs
accepted_of (v ∷ vs) (Ok es ∷ gs) = v ∷ accepted_of vs gs

-- the length and the need after an event or its refusal, then those of all later events
abbrev pub measured_by :
    History → Event → (History → List (Result (ℕ × ℕ) Refusal)) → Option Refusal
    → List (Result (ℕ × ℕ) Refusal)
measured_by h v rest (Some r) = Err r ∷ rest h
measured_by h v rest None =
    let g = append_entries h (entered_by h (entry_for h v)) in Ok (place g, need g) ∷ rest g

-- the length and the need after each event, or its refusal, within a limit
abbrev pub lengths : ℕ → History → List Event → List (Result (ℕ × ℕ) Refusal)
lengths limit h [] = []
lengths limit h (v ∷ vs) =
    measured_by h v (λ g. lengths limit g vs) (refusal_within limit h v)
