-- Clocks: when a server hands in what a clock shows.
use Rattle.std.specs.Prelude.{ℕ, ◌≡◌, ◌++◌, Bool, true, false, nat_le, [], ◌∷◌, Option}
use Rattle.std.specs.Prelude.{Some, None, option_map}
use Rattle.std.specs.declared.time.Duration.{Duration}
use Rattle.std.specs.Duration.{as_nanos}
use Rattle.pt_types.specs.declared.time.Clock.{Clock}
use Rattle.pt_model.specs.Queries.{least_deadline}
use Rattle.pt_legal.specs.Cores.{history_of}
use Rattle.pt_hub.specs.AnsweringCores.{hub_core}
use Rattle.pt_hub.specs.Passes.{ClockView}
use Rattle.pt_session.specs.UnderLock.{FoundUnderLock}

-- whether a deadline is at or before a moment  [XSH pthread_mutex_timedlock]
abbrev pub is_deadline_due : Option ℕ → ℕ → Bool
is_deadline_due None now = false
is_deadline_due (Some deadline) now = nat_le deadline now

-- no moment is handed in; or one of this clock is, which is its reading, if a deadline of an open
-- call was due by it  [profile]
pub data IsLookedAt (clock : Clock) (reading : Option Duration) (old new : ClockView)
    : Type 0 where
  nothing : new ≡ old → IsLookedAt clock reading old new
  ticks : (moment : ℕ) → option_map as_nanos reading ≡ Some moment
      → FoundUnderLock (λ hub. is_deadline_due (least_deadline (history_of
      (hub_core hub.inner)) clock) moment ≡ true)
      → new ≡ record old { moments = old.moments ++ record { clock = clock; moment = moment } ∷ [] }
      → IsLookedAt clock reading old new
