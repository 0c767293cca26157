use Rattle.std.proofs.Common.{◌≡◌, ℕ, List, Option, Some, None, false}
use Rattle.std.specs.Prelude.{IfSome}
use Rattle.pt_types.specs.declared.time.Clock.{Clock}
use Rattle.pt_types.specs.Times.{Timespec, is_invalid_deadline}
use Rattle.pt_timers.specs.Deadlines.{IsLeast}
use Rattle.pt_state.specs.Adds.{history_of}
use Rattle.pt_machine.specs.CallDeadlines.{AreDeadlinesSet}
use Rattle.pt_machine.proofs.DueLemmas.{least-kept}
use Rattle.pt_machine.proofs.NoBadDeadlines.{none-bad}
use Rattle.pt_machine.proofs.machine.Machine.least_deadline.Goals as goal

-- a deadline that is set is a time
is_time : (timers : List (ℕ × (Clock × ℕ))) (k : Clock) (found : Option Timespec)
    → IsLeast timers k found → IfSome found (λ d. is_invalid_deadline d ≡ false)
is_time timers k None least = tt
is_time timers k (Some d) least = least.2

pub returns : goal.returns
returns g c = record {
  value = let s = c.args.self.now in
      let read = c.requires.tables in
      let timed : AreDeadlinesSet (history_of s) c.self.inside.timers =
      rw (← c.self.view_is) c.self.invariant.1 in
      least-kept (history_of s) read.follows c.self.inside.timers timed
      (none-bad (history_of s) read.follows c.requires.quiet) c.args.clock c.least.result
      c.least.ensures;
  time = is_time c.self.inside.timers c.args.clock c.least.result c.least.ensures;
}
