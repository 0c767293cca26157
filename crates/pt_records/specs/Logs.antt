-- Logs: all answers, each with the place of the entry that gave it.
use Rattle.std.specs.Prelude.{ℕ, ◌==◌, ◌≤◌, nat_le, List, [], ◌∷◌, ◌++◌, Option, Some, None, map}
use Rattle.std.specs.Prelude.{if◌then◌else◌}
use Rattle.std.specs.List.{filter}
use Rattle.std.specs.Option.{option_or}
use Rattle.pt_types.specs.declared.outcome.Outcome.{Outcome}
use Rattle.pt_model.specs.Histories.{History, Begin, ◌▷◌, place}
use Rattle.pt_model.specs.Records.{ReplyView}
use Rattle.pt_model.specs.Answers.{entry_replies}
use Rattle.pt_records.specs.declared.answers.Answered.{Answered}

-- an answer, with the place of the entry that gave it
abbrev pub log_entry : Answered → ℕ × ReplyView
log_entry a = (a.at, record { client = a.client; place = a.place; outcome = a.outcome })

-- the answers that an entry gives, each with the place of the entry
abbrev pub replies_with_place : ℕ → List ReplyView → List (ℕ × ReplyView)
replies_with_place k ts = map (λ t. (k, t)) ts

-- all answers since the Start, in order of the entries that gave them
abbrev pub log : History → List (ℕ × ReplyView)
log (Begin s) = []
log (h ▷ e) = log h ++ replies_with_place (place h) (entry_replies h e)

-- the answer to the call at place j, if it came before the Start
abbrev pub outcome_before : History → ℕ → Option Outcome
outcome_before (Begin s) j = s.outcome j
outcome_before (h ▷ e) j = outcome_before h j

-- the answers of a log, without the places of the entries that gave them
abbrev pub answers_in : List (ℕ × ReplyView) → List ReplyView
answers_in ps = map (λ p. p.1) ps

-- the answers of a log that the entries from place k on gave
abbrev pub log_since : ℕ → List (ℕ × ReplyView) → List (ℕ × ReplyView)
log_since k ps = filter (λ p. nat_le k p.0) ps

-- the places of the entries that gave the answers never fall, and none is below n
abbrev pub HasRisingPlaces : ℕ → List (ℕ × ReplyView) → Type 0
HasRisingPlaces n [] = Unit {0}
HasRisingPlaces n (p ∷ ps) = (n ≤ p.0) × HasRisingPlaces p.0 ps

-- the last of these answers that is to the call at place j
abbrev pub last_to : List (ℕ × ReplyView) → ℕ → Option ReplyView
last_to [] j = None
last_to (p ∷ ps) j = option_or (last_to ps j) (if p.1.place == j then Some p.1 else None)

-- the outcome of a logged answer, if there is one
abbrev pub outcome_if : Option ReplyView → Option Outcome
outcome_if None = None
outcome_if (Some t) = Some t.outcome

-- the outcome of the last of these answers that is to the call at place j
abbrev pub outcome_in_log : List (ℕ × ReplyView) → ℕ → Option Outcome
outcome_in_log ps j = outcome_if (last_to ps j)

-- the first of these answers that is to the call at place j
abbrev pub first_to : List (ℕ × ReplyView) → ℕ → Option ReplyView
first_to [] j = None
first_to (p ∷ ps) j = if p.1.place == j then Some p.1 else first_to ps j

-- the outcome of the first of these answers that is to the call at place j
abbrev pub first_outcome_to : List (ℕ × ReplyView) → ℕ → Option Outcome
first_outcome_to ps j = outcome_if (first_to ps j)
