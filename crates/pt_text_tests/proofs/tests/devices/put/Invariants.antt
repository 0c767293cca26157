use Rattle.std.proofs.Common.{◌≡◌, ◌++◌, length}
use Rattle.pt_text_tests.proofs.tests.devices.put.Given as goal

abbrev pub invariant-loop-rest : goal.invariant-loop-rest
invariant-loop-rest g l =
    (g.W.Sink.failures l.writer ≡ 0)
    × (g.W.Sink.taken l.writer ++ l.rest ≡ g.W.Sink.taken l.fn.writer ++ l.fn.bytes)

abbrev pub decreases-loop-rest : goal.decreases-loop-rest
decreases-loop-rest g l = length l.rest
