use Rattle.pt_parts_tests.specs.Playing.{IsInPlay}
use Rattle.pt_parts_tests.proofs.tests.wait_lists.play_2000.Given as goal

abbrev pub invariant-loop-place : goal.invariant-loop-place
invariant-loop-place g l =
    IsInPlay (g.P.WaitList.seen l.plain) l.place
    × IsInPlay (g.C.WaitList.seen l.chains) l.place
