-- SealedPlay: events played by the definitions alone, with a history that is sealed between them.
use Rattle.std.specs.Prelude.{◌≡◌, ℕ, List, [], ◌∷◌, ◌++◌, map, Option, Some, None, Result, Ok, Err}
use Rattle.std.specs.Prelude.{if◌then◌else◌}
use Rattle.std.specs.Option.{option_to_list}
use Rattle.pt_types.specs.declared.outcome.Outcome.{Outcome}
use Rattle.pt_types.specs.declared.outcome.Refusal.{Refusal}
use Rattle.pt_model.specs.declared.entry.Entry.{Entry}
use Rattle.pt_model.specs.declared.entry.Event.{Event}
use Rattle.pt_model.specs.Histories.{History, Begin, place, history_length, append_entries}
use Rattle.pt_model.specs.Starts.{empty_start}
use Rattle.pt_model.specs.Answers.{replies_from}
use Rattle.pt_model.specs.Room.{entry_for, needs_seal, refusal_with_seals}
use Rattle.pt_model.specs.Seals.{seal}
use Rattle.pt_examples.specs.Play.{play, client_and_outcome, outcomes_in, entered_by}

-- these events write these entries after h, and give these answers
abbrev pub Plays :
    (h : History) (events : List Event) (entered : List (Result (List Entry) Refusal))
    (outcomes : List (List (ℕ × Outcome)))
    → Type 0
Plays h events entered outcomes = (play h events ≡ entered) × (outcomes_in h entered ≡ outcomes)

-- the history that goes on from the seal of h
abbrev pub after_seal : History → History
after_seal h = Begin (seal h)

-- the history in which an event's entries are written: sealed first, if the event needs a seal
abbrev pub history_for_event : ℕ → History → Event → History
history_for_event limit h v = if needs_seal limit h v then after_seal h else h

-- the place at which the history is sealed for an event, if it is
abbrev pub sealed_at : ℕ → History → Event → Option ℕ
sealed_at limit h v = if needs_seal limit h v then Some (place h) else None

-- an accepted event as it was played: the place at which the history was sealed for it, if it was;
-- the history in which it was written; and its entries
pub record Played : Type 0 where
  pub sealed : Option ℕ
  pub earlier : History
  pub entries : List Entry

-- an accepted event as it was played, with its entries in the history in which they are written
abbrev pub written : Option ℕ → History → Event → Played
written at h v = record { sealed = at; earlier = h; entries = entered_by h (entry_for h v) }

-- the history after an event that was played
abbrev pub after_event : Played → History
after_event p = append_entries p.earlier p.entries

-- an event as it was played or its refusal, then the same of all later events
abbrev pub sealing_by :
    Played → (History → List (Result Played Refusal)) → History → Option Refusal
    → List (Result Played Refusal)
sealing_by p rest h (Some r) = Err r ∷ rest h
sealing_by p rest h None = Ok p ∷ rest (after_event p)

-- each event as it was played, or its refusal, with at most this many entries after each seal
abbrev pub play_sealing : ℕ → History → List Event → List (Result Played Refusal)
play_sealing limit h [] = []
play_sealing limit h (v ∷ vs) =
    sealing_by
    (written (sealed_at limit h v) (history_for_event limit h v) v)
    (λ g. play_sealing limit g vs)
    h
    (refusal_with_seals limit h v)

-- the history after the last of these events
abbrev pub last_of : History → List (Result Played Refusal) → History
last_of h [] = h
last_of h (Err r ∷ ps) = last_of h ps
last_of h (Ok p ∷ ps) = last_of (after_event p) ps

-- the next place after an event and the length, or its refusal
abbrev pub measured : Result Played Refusal → Result (ℕ × ℕ) Refusal
measured (Err r) = Err r
measured (Ok p) = Ok (place (after_event p), history_length (after_event p))

-- the next place after each event and the length, or its refusal, with at most this many entries
-- after each seal
abbrev pub lengths_sealing : ℕ → List Event → List (Result (ℕ × ℕ) Refusal)
lengths_sealing limit events = map measured (play_sealing limit (Begin empty_start) events)

-- the entries of an event, or its refusal
abbrev pub entries_of : Result Played Refusal → Result (List Entry) Refusal
entries_of (Err r) = Err r
entries_of (Ok p) = Ok p.entries

-- the answers that each accepted event gives, each with its client
abbrev pub outcomes_of : List (Result Played Refusal) → List (List (ℕ × Outcome))
outcomes_of [] = []
outcomes_of (Err r ∷ ps) = outcomes_of ps
outcomes_of (Ok p ∷ ps) = map client_and_outcome (replies_from p.earlier p.entries) ∷ outcomes_of ps

-- the places at which the history was sealed for these events
abbrev pub seals_of : List (Result Played Refusal) → List ℕ
seals_of [] = []
seals_of (Err r ∷ ps) = seals_of ps
seals_of (Ok p ∷ ps) = option_to_list p.sealed ++ seals_of ps
