-- Passes: what is seen of a client, of what it leaves, and of a clock.
use Rattle.std.specs.Prelude.{ℕ, ◌≡◌, ◌+◌, ◌<◌, List, [], ◌∷◌, length, sum_by, Option, Some, IfSome}
use Rattle.pt_model.specs.declared.entry.Event.{Event}
use Rattle.pt_model.specs.declared.entry.Event.TheVariants as event
use Rattle.pt_model.specs.Searches.{Each}
use Rattle.pt_client_events.specs.OwnEvents.{own_event}
use Rattle.pt_cells.specs.Cells.{SeenView}
use Rattle.pt_hub.specs.declared.pass.Receipt.{Receipt}
use Rattle.pt_hub.specs.declared.pass.Tick.{Tick}

-- a client's number, its priority, what it saw of its Join, and its calls with the answers that it
-- took: those whose receipts were discarded, and then those whose receipts it has
pub record PassView : Type 0 where
  pub client : ℕ
  pub priority : ℕ
  pub seen : Option SeenView
  pub discarded : List Receipt
  pub receipts : List Receipt

-- what a client leaves: its pass, the place of its Death, and the number of Deaths that this added,
-- 0 or 1
pub record LeftView : Type 0 where
  pub client : ℕ
  pub priority : ℕ
  pub joined : Option SeenView
  pub discarded : List Receipt
  pub receipts : List Receipt
  pub died_at : ℕ
  pub seen : Option SeenView
  pub deaths : ℕ

-- the moments that a clock submitted: those that were discarded, and then those that it has
pub record ClockView : Type 0 where
  pub discarded : List Tick
  pub moments : List Tick

-- a clock that has submitted no moment
abbrev pub new_clock : ClockView
new_clock = record { discarded = []; moments = [] }

-- what was seen, if anything, is the client's own entry at this place, and this is its event
abbrev pub IsOwn : ℕ → ℕ → Event → Option SeenView → Type 0
IsOwn c j v o = IfSome o (λ s. (s.place ≡ j) × (own_event c s.cell.entry ≡ Some v))

-- a receipt has seen the entry of its call, if anything
abbrev pub IsReceiptOf : ℕ → Receipt → Type 0
IsReceiptOf c r = IsOwn c r.place (event.Call c r.call) r.seen

-- the places of receipts rise, from above this one
abbrev pub RisesFrom : ℕ → List Receipt → Type 0
RisesFrom k [] = Unit {0}
RisesFrom k (r ∷ rs) = (k < r.place) × RisesFrom r.place rs

-- the place of the last receipt, or this one if there is none
abbrev pub last_place : ℕ → List Receipt → ℕ
last_place k [] = k
last_place k (r ∷ rs) = last_place r.place rs

-- the receipts of a client: each has seen the entry of its call, if anything, and their places rise
-- from that of its Join
pub record AreReceipts (c : ℕ) (rs : List Receipt) : Type 0 where
  pub each : Each (IsReceiptOf c) rs
  pub rises : RisesFrom c rs

-- a client's Join has this place, and the client has seen its entry, if anything
abbrev pub IsJoinOf : ℕ → ℕ → Option SeenView → Type 0
IsJoinOf c p o = IsOwn c c (event.Join p) o

-- a client's Death has this place, and if the client has seen its entry, the place is above those
-- of the receipts
pub record IsDeathOf (c : ℕ) (rs : List Receipt) (j : ℕ) (o : Option SeenView) : Type 0 where
  pub own : IsOwn c j (event.Death c) o
  pub last : IfSome o (λ s. last_place c rs < j)

-- the number of outer entries that a client shows when it has left: its Join, the Calls of its
-- receipts and its Death, if it added one
abbrev pub events_of_left : LeftView → ℕ
events_of_left l = 1 + l.deaths + length l.receipts

-- the number of outer entries that a clock shows: those of the moments that it has
abbrev pub events_of_clock : ClockView → ℕ
events_of_clock c = length c.moments

-- the number of outer entries that these clients and clocks show
abbrev pub events_found : List LeftView → List ClockView → ℕ
events_found ls cs = sum_by events_of_left ls + sum_by events_of_clock cs
