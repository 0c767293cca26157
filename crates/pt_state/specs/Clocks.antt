-- Clocks: the two clocks as they are stored, and as they are read off a history.
use Rattle.std.specs.Prelude.{ℕ, ◌≡◌, Option}
use Rattle.pt_types.specs.declared.time.Clock.{Clock}
use Rattle.pt_types.specs.declared.time.Clock.TheVariants.{Real, Mono}
use Rattle.pt_model.specs.Histories.{History}
use Rattle.pt_model.specs.Clients.{clock}
use Rattle.pt_state.specs.declared.clock.Clocks.{Clocks}

-- the stored reading of a clock: its greatest moment in nanoseconds, or none before its first
abbrev pub clock_reading : Clocks → Clock → Option ℕ
clock_reading clocks Real = clocks.real
clock_reading clocks Mono = clocks.mono

-- the stored clocks are those of the history
abbrev pub AreClocks : History → Clocks → Type 0
AreClocks h clocks = (k : Clock) → clock_reading clocks k ≡ clock h k
