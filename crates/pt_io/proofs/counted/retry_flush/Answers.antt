use Rattle.pt_io.proofs.Tallies.{keeps_on}
use Rattle.pt_io.proofs.counted.retry_flush.Goals as goal

pub loop-preserved : goal.loop-preserved
loop-preserved g c =
    keeps_on (g.W.Write.contents c.args.device.now) (g.W.Write.contents c.loop.device)
    (g.W.Write.contents c.flush.new.self) c.loop.invariant c.flush.ensures.bytes

pub returns-in_default : goal.returns-in_default
returns-in_default g c =
    keeps_on (g.W.Write.contents c.args.device.now) (g.W.Write.contents c.loop.device)
    (g.W.Write.contents c.flush.new.self) c.loop.invariant c.flush.ensures.bytes
