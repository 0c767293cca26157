use Rattle.std.proofs.Common.{ℕ, ◌≡◌, ◌≤◌, ◌<◌, true, false}
use Rattle.pt_parts_tests.proofs.tests.wait_lists.admit_all.Given as goal

abbrev pub invariant-loop-number : goal.invariant-loop-number
invariant-loop-number g l =
    ((c : ℕ) → c < l.number → (g.W.WaitList.seen l.list).admitted c ≡ true)
    × ((c : ℕ) → l.number ≤ c → (g.W.WaitList.seen l.list).admitted c ≡ false)
    × ((q : ℕ) → (g.W.WaitList.seen l.list).is_queue q ≡ (g.W.WaitList.seen l.fn.list).is_queue q)
    × ((q : ℕ) → (g.W.WaitList.seen l.list).queue q ≡ (g.W.WaitList.seen l.fn.list).queue q)
