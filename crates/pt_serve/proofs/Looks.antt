-- Looks at a clock.
use Rattle.std.specs.Prelude.{◌≡◌, ℕ, ◌++◌, [], ◌∷◌, Result, Ok, Err, OnOk, OnErr, Option}
use Rattle.std.specs.Prelude.{Some, true, option_map}
use Rattle.std.proofs.Common.{ap, sym, ◌∙◌}
use Rattle.std.specs.declared.time.Duration.{Duration}
use Rattle.std.specs.Duration.{as_nanos}
use Rattle.pt_types.specs.declared.time.Clock.{Clock}
use Rattle.pt_model.specs.Queries.{least_deadline}
use Rattle.pt_legal.specs.Cores.{history_of}
use Rattle.pt_hub.specs.AnsweringCores.{hub_core}
use Rattle.pt_hub.specs.Passes.{ClockView}
use Rattle.pt_session.specs.UnderLock.{FoundUnderLock}
use Rattle.pt_serve.specs.Clocks.{IsLookedAt, is_deadline_due, nothing, ticks}

-- the least deadline was read under the lock, and it was due
pub due : (clock : Clock) (least : Option ℕ) (moment : ℕ)
    → FoundUnderLock (λ hub. least ≡ least_deadline (history_of (hub_core hub.inner)) clock)
    → is_deadline_due least moment ≡ true
    → FoundUnderLock (λ hub. is_deadline_due (least_deadline (history_of
    (hub_core hub.inner)) clock) moment ≡ true)
due clock least moment found is = record {
  hub = found.hub;
  fits = found.fits;
  so = ap (λ l. is_deadline_due l moment) (sym found.so) ∙ is;
}

-- a moment that was handed in, or refused
pub looked : {T E : Type 0} (r : Result T E) (clock : Clock) (reading : Option Duration)
    (moment : ℕ) (old new : ClockView) → option_map as_nanos reading ≡ Some moment
    → FoundUnderLock (λ hub. is_deadline_due (least_deadline (history_of
    (hub_core hub.inner)) clock) moment ≡ true)
    → OnOk r (new
    ≡ record old { moments = old.moments ++ record { clock = clock; moment = moment } ∷ [] })
    → OnErr r (new ≡ old) → IsLookedAt clock reading old new
looked (Ok x) clock reading moment old new reads found told same = ticks moment reads found told
looked (Err e) clock reading moment old new reads found told same = nothing same
