-- Closing: whether what clients left is what the history has of them.
use Rattle.std.specs.Prelude.{ℕ, ◌≡◌, ◌≢◌, ◌≤◌, ◌⊎◌, Bool, false, nat_le, nat_lt, List, [], ◌∷◌}
use Rattle.std.specs.Prelude.{◌++◌, map, Option, Some, None, IfSome, if◌then◌else◌}
use Rattle.pt_model.specs.declared.entry.Event.{Event}
use Rattle.pt_model.specs.declared.entry.Event.TheVariants as event
use Rattle.pt_model.specs.Searches.{Each, In}
use Rattle.pt_model.specs.Answers.{outcome}
use Rattle.pt_client_events.specs.OwnEvents.{own_since, events_from_place, PartsAt}
use Rattle.pt_legal.specs.Cores.{CoreState, history_of}
use Rattle.pt_hub.specs.declared.pass.Receipt.{Receipt}
use Rattle.pt_hub.specs.declared.closing.CloseFault.{CloseFault}
use Rattle.pt_hub.specs.declared.closing.CloseFault.TheVariants.{Missing, Forked, Memory}
use Rattle.pt_cells.specs.Cells.{SeenView}
use Rattle.pt_hub.specs.AnsweringCores.{AnsweringCoreView, hub_core, seen_at, Meets}
use Rattle.pt_hub.specs.Hubs.{outer_count}
use Rattle.pt_hub.specs.Passes.{LeftView, ClockView, events_found}

-- what a client claims that it did: it joined, made its calls, and died  [profile]
abbrev pub claimed_events : LeftView → List (ℕ × Event)
claimed_events l =
    (l.client, event.Join l.priority)
    ∷ map (λ r. (r.place, event.Call l.client r.call)) l.receipts
    ++ (l.died_at, event.Death l.client) ∷ []

-- whether there is a claimed event and its place is before this one
abbrev pub is_early : ℕ → Option (ℕ × Event) → Bool
is_early k None = false
is_early k (Some x) = nat_lt x.0 k

-- the events of a client, with their places, that the history has since its Start  [profile]
abbrev pub own_events : CoreState → ℕ → List (ℕ × Event)
own_events k c = own_since k.start k.entries c

-- the client's claims that are not before the Start  [profile]
abbrev pub claimed_events_since : CoreState → LeftView → List (ℕ × Event)
claimed_events_since k l = events_from_place k.start.at (claimed_events l)

-- if a receipt has an answer and its place isn't before the Start, the history has that answer at
-- the place  [XSH, the call's page]
abbrev pub HasRecordedAnswer : CoreState → Receipt → Type 0
HasRecordedAnswer k r = k.start.at ≤ r.place → IfSome r.answer (λ x. outcome (history_of k) r.place
    ≡ Some x)

-- a client's entries since the Start are those that it claims, in order, and its answers are those
-- of the history  [profile]
pub record MatchesHistory (k : CoreState) (l : LeftView) : Type 0 where
  pub events : own_events k l.client ≡ claimed_events_since k l
  pub answers : Each (HasRecordedAnswer k) l.receipts

-- a receipt is of this place and its answer isn't that of the history  [profile]
abbrev pub HasWrongAnswer : CoreState → Receipt → ℕ → Type 0
HasWrongAnswer k r j = (r.place ≡ j) × (HasRecordedAnswer k r → ⊥)

-- P holds of one of these at this place  [profile]
abbrev pub AnyAt : {A : Type 0} → (A → ℕ → Type 0) → List A → ℕ → Type 0
AnyAt P [] j = ⊥
AnyAt P (x ∷ xs) j = P x j ⊎ AnyAt P xs j

-- at this place a client's entries aren't those that it claims, or an answer isn't that of the
-- history  [profile]
abbrev pub DiffersAt : CoreState → LeftView → ℕ → Type 0
DiffersAt k l j =
    PartsAt (own_events k l.client) (claimed_events_since k l) j
    ⊎ AnyAt (HasWrongAnswer k) l.receipts j

-- the lesser of two places, or the only one, if there is any
abbrev pub min_place : Option ℕ → Option ℕ → Option ℕ
min_place None b = b
min_place (Some j) None = Some j
min_place (Some j) (Some k) = Some (if nat_le j k then j else k)

-- this is the least place at which the history differs from what one of these clients left
-- [profile]
pub record IsLeastFork (k : CoreState) (ls : List LeftView) (j : ℕ) : Type 0 where
  pub there : AnyAt (DiffersAt k) ls j
  pub least : (i : ℕ) → AnyAt (DiffersAt k) ls i → j ≤ i

-- this is the fault for which a hub doesn't close: the number of its events isn't that of the
-- events handed in, or else the history differs from what a client left  [profile]
abbrev pub IsCloseFault : AnsweringCoreView → List LeftView → List ClockView → CloseFault → Type 0
IsCloseFault d ls cs (Missing expected found) =
    (expected ≡ outer_count d) × (found ≡ events_found ls cs) × (expected ≢ found)
IsCloseFault d ls cs (Forked j) =
    (outer_count d ≡ events_found ls cs) × IsLeastFork (hub_core d) ls j
IsCloseFault d ls cs Memory = ⊥

-- what was seen, if anything, has the entry that the history has there, if it is of the cell there
abbrev pub HasMet : AnsweringCoreView → Option SeenView → Type 0
HasMet d o = IfSome o (Meets d)

-- what a receipt has seen, if anything, has the entry that the history has there, if it is of the
-- cell there
abbrev pub IsMet : AnsweringCoreView → Receipt → Type 0
IsMet d r = HasMet d r.seen

-- an event that a client claims, with its place, and what the client has seen of it, if anything
pub record Claim : Type 0 where
  pub place : ℕ
  pub event : Event
  pub seen : Option SeenView

-- a client's claims, with what it has seen of each: its Join, its calls and its Death  [profile]
abbrev pub seen_claims : LeftView → List Claim
seen_claims l =
    record { place = l.client; event = event.Join l.priority; seen = l.joined }
    ∷ map (λ r. record { place = r.place; event = event.Call l.client r.call; seen = r.seen })
    l.receipts
    ++ record { place = l.died_at; event = event.Death l.client; seen = l.seen } ∷ []

-- one of a client's claims is of this place, the client doesn't claim its Death there beside it,
-- and what the client has seen of it is of the cell that the history has there
pub record IsSeenThere (d : AnsweringCoreView) (l : LeftView) (j : ℕ) : Type 0 where
  pub claim : Claim
  pub among : In claim (seen_claims l)
  pub place : claim.place ≡ j
  pub only_death : l.died_at ≡ j → claim.event ≡ event.Death l.client
  pub mine : SeenView
  pub seen : claim.seen ≡ Some mine
  pub theirs : SeenView
  pub there : seen_at d j ≡ Some theirs
  pub same_cell : theirs.cell.name ≡ mine.cell.name

-- a client's entries and what it claims don't part at a place where what the client has seen is of
-- the cell that the history has: there only the answer in a receipt can differ from the history
abbrev pub IsHonest : AnsweringCoreView → LeftView → Type 0
IsHonest d l =
    (j : ℕ) → IsSeenThere d l j
    → PartsAt (own_events (hub_core d) l.client) (claimed_events_since (hub_core d) l) j → ⊥

-- if the fault is that a client's record differs, this holds
abbrev pub IfForked : CloseFault → Type 0 → Type 0
IfForked (Forked j) P = P
IfForked (Missing expected found) P = Unit {0}
IfForked Memory P = Unit {0}
