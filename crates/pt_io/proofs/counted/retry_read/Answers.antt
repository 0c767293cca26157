use Rattle.std.proofs.Common.{◌∙◌}
use Rattle.pt_io.proofs.Tallies.{keeps_on, reads_on}
use Rattle.pt_io.proofs.counted.retry_read.Goals as goal

pub loop-preserved : goal.loop-preserved
loop-preserved g c = (
  c.read.auto.buf ∙ c.loop.invariant.0,
  keeps_on (g.R.Read.remaining c.args.device.now) (g.R.Read.remaining c.loop.device)
      (g.R.Read.remaining c.read.new.self) c.loop.invariant.1 c.in-Err.ensures.bytes,
)

pub returns-in_default-clause-device : goal.returns-in_default-clause-device
returns-in_default-clause-device g c =
    keeps_on (g.R.Read.remaining c.args.device.now) (g.R.Read.remaining c.loop.device)
    (g.R.Read.remaining c.read.new.self) c.loop.invariant.1 c.in-Err.ensures.bytes

pub returns-in_default-2-clause-device : goal.returns-in_default-2-clause-device
returns-in_default-2-clause-device g c =
    reads_on (g.R.Read.remaining c.args.device.now) (g.R.Read.remaining c.loop.device)
    (g.R.Read.remaining c.read.new.self) c.read.result c.read.new.buf c.loop.invariant.1
    c.read.ensures.bytes

pub returns-clause-device : goal.returns-clause-device
returns-clause-device g c =
    reads_on (g.R.Read.remaining c.args.device.now) (g.R.Read.remaining c.loop.device)
    (g.R.Read.remaining c.read-2.new.self) c.read-2.result c.read-2.new.buf c.loop.invariant.1
    c.read-2.ensures.bytes
