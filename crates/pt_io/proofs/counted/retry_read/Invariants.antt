use Rattle.std.proofs.Common.{◌≡◌, length}
use Rattle.std.specs.Io.KnownBytes.{Keeps}
use Rattle.pt_io.proofs.counted.retry_read.Given as goal

abbrev pub invariant-loop : goal.invariant-loop
invariant-loop g l =
    (length l.buf ≡ length l.fn.buf)
    × Keeps (g.R.Read.remaining l.fn.device) (g.R.Read.remaining l.device)
