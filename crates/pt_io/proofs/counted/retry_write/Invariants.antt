use Rattle.std.specs.Io.KnownBytes.{Keeps}
use Rattle.pt_io.proofs.counted.retry_write.Given as goal

abbrev pub invariant-loop : goal.invariant-loop
invariant-loop g l = Keeps (g.W.Write.contents l.fn.device) (g.W.Write.contents l.device)
