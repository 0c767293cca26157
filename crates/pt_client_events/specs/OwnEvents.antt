-- OwnEvents: the events of a client's own entries, and the place at which two accounts of them
-- part.
use Rattle.std.specs.Prelude.{ℕ, suc, ◌≡◌, ◌≢◌, ◌≤◌, ◌-◌, ◌==◌, ◌⊎◌, min, nat_le, List, [], ◌∷◌}
use Rattle.std.specs.Prelude.{◌++◌, slice_get, Option, Some, None, if◌then◌else◌}
use Rattle.std.specs.List.{filter}
use Rattle.pt_model.specs.declared.entry.Entry.{Entry}
use Rattle.pt_model.specs.declared.entry.Entry.TheVariants.{Join, Call, Death}
use Rattle.pt_model.specs.declared.entry.Event.{Event}
use Rattle.pt_model.specs.declared.entry.Event.TheVariants as event
use Rattle.pt_model.specs.Starts.{Start}

-- the event of an entry, if the client joins, makes a call or dies by it
abbrev pub own_event : ℕ → Entry → Option Event
own_event c (Join d p) = if d == c then Some (event.Join p) else None
own_event c (Call d call answer) = if d == c then Some (event.Call d call) else None
own_event c (Death d) = if d == c then Some (event.Death d) else None
own_event c _ = None

-- the list of an event with its place, if there is an event
abbrev pub with_place : ℕ → Option Event → List (ℕ × Event)
with_place k None = []
with_place k (Some v) = (k, v) ∷ []

-- the events of a client's own entries with their places, if the first entry is at place k
abbrev pub own_from : ℕ → ℕ → List Entry → List (ℕ × Event)
own_from c k [] = []
own_from c k (e ∷ es) = with_place k (own_event c e) ++ own_from c (suc k) es

-- the events of a client's own entries since a Start, with their places
abbrev pub own_since : Start → List Entry → ℕ → List (ℕ × Event)
own_since s es c = own_from c s.at es

-- the event of an entry, if there is one and it is the client's own
abbrev pub own_if : ℕ → Option Entry → Option Event
own_if c None = None
own_if c (Some e) = own_event c e

-- the event of the entry at this place, if it is the client's own
abbrev pub own_at : Start → List Entry → ℕ → ℕ → Option Event
own_at s es c j = own_if c (slice_get es (j - s.at))

-- the events whose places are this one or later
abbrev pub events_from_place : ℕ → List (ℕ × Event) → List (ℕ × Event)
events_from_place k xs = filter (λ x. nat_le k x.0) xs

-- the two lists agree and then part at this place: the lesser place of the first two events that
-- differ, or the place of the next event if one list has ended
abbrev pub PartsAt : List (ℕ × Event) → List (ℕ × Event) → ℕ → Type 0
PartsAt [] [] k = ⊥
PartsAt (x ∷ xs) [] k = x.0 ≡ k
PartsAt [] (y ∷ ys) k = y.0 ≡ k
PartsAt (x ∷ xs) (y ∷ ys) k = ((x ≡ y) × PartsAt xs ys k) ⊎ ((x ≢ y) × (min x.0 y.0 ≡ k))

-- the place of an event, if there is one
abbrev pub place_if : Option (ℕ × Event) → Option ℕ
place_if None = None
place_if (Some x) = Some x.0

-- the option has the least place for which P holds, or it is none, P holds for no place, and So
-- holds
abbrev pub Finds : (ℕ → Type 0) → Type 0 → Option ℕ → Type 0
Finds P So None = So × ((j : ℕ) → P j → ⊥)
Finds P So (Some k) = P k × ((j : ℕ) → P j → k ≤ j)

-- the last option is none if x is the next event, and else has the place at which the two part
abbrev pub Compares : ℕ × Event → Option (ℕ × Event) → Option ℕ → Type 0
Compares x None parted = parted ≡ Some x.0
Compares x (Some y) None = x ≡ y
Compares x (Some y) (Some k) = (x ≢ y) × (min x.0 y.0 ≡ k)
