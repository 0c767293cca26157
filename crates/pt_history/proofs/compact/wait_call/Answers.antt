use Rattle.std.proofs.Common.{ap, sym}
use Rattle.pt_history.specs.Compact.{wait_until}
use Rattle.pt_history.proofs.compact.wait_call.Goals as goal

pub returns-in-None : goal.returns-in-None
returns-in-None c =
    sym (ap (wait_until c.args.cond c.args.mutex c.args.limit.deadline) c.in-None.is)

pub returns-in-Some : goal.returns-in-Some
returns-in-Some c =
    sym (ap (wait_until c.args.cond c.args.mutex c.args.limit.deadline) c.in-Some.is)
