use Rattle.std.proofs.Common.{◌≡◌, length}
use Rattle.pt_text_tests.proofs.tests.devices.copy.Given as goal

abbrev pub invariant-loop : goal.invariant-loop
invariant-loop g l =
    (g.R.Source.failures l.reader ≡ 0)
    × (g.W.Sink.failures l.writer ≡ 0)
    × (g.W.Sink.taken l.writer ≡ g.R.Source.given l.reader)
    × (length l.piece ≡ 5)
