-- After a Join or a Moment, the same deadlines are set as before.
use Rattle.std.proofs.Common.{ℕ, List, Result, Ok, Err, OnOk, OnErr, sym, ◌∙◌, subst}
use Rattle.pt_types.specs.declared.time.Clock.{Clock}
use Rattle.pt_model.specs.declared.entry.Entry.TheVariants.{Join, Moment}
use Rattle.pt_model.specs.Histories.{History, place}
use Rattle.pt_state.specs.declared.state.State.{State}
use Rattle.pt_state.specs.Adds.{history_of, Adds, AddsNothing}
use Rattle.pt_state.specs.Reads.{AreTables}
use Rattle.pt_machine.specs.CallDeadlines.{AreDeadlinesSet}
use Rattle.pt_machine.proofs.QueuedSame.{history_of-adds, history_of-stays}
use Rattle.pt_machine.proofs.TimedSteps.{set-join, set-moment}

module _ {A : Type 0} (old new : State A) (timers : List (ℕ × (Clock × ℕ))) (read : AreTables old)
    (timed : AreDeadlinesSet (history_of old) timers) where
  -- a client joined, or was refused
  pub timed-join : {T E : Type 0} (r : Result T E) (k : ℕ)
      → OnOk r (Adds old (Join (place (history_of old)) k) new) → OnErr r (AddsNothing old new)
      → AreDeadlinesSet (history_of new) timers
  timed-join (Ok x) k adds stays =
      subst (λ (h : History). AreDeadlinesSet h timers)
      (sym (history_of-adds old new (Join (place (history_of old)) k) adds))
      (λ p. timed p ∙ sym (set-join (history_of old) k read.follows p))
  timed-join (Err x) k adds stays =
      subst (λ (h : History). AreDeadlinesSet h timers) (sym (history_of-stays old new stays)) timed

  -- a clock was read
  pub timed-moment : (z : Clock) (t : ℕ) → Adds old (Moment z t) new
      → AreDeadlinesSet (history_of new) timers
  timed-moment z t adds =
      subst (λ (h : History). AreDeadlinesSet h timers) (sym (history_of-adds old new
      (Moment z t) adds))
      (λ p. timed p ∙ sym (set-moment (history_of old) z t read.follows p))
