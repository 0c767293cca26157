use Rattle.std.proofs.Common.{ℕ, ◌≡◌, ◌≤◌, None}
use Rattle.pt_timers.specs.Deadlines.{deadline_at}
use Rattle.pt_parts_tests.proofs.tests.timers.set_20_timers.Given as goal

abbrev pub invariant-loop-place : goal.invariant-loop-place
invariant-loop-place l = (p : ℕ) → l.place ≤ p → deadline_at l.timers p ≡ None
