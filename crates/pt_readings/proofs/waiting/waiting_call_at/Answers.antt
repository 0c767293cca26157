use Rattle.std.proofs.Common.{sym}
use Rattle.pt_readings.proofs.Stood.{waiting_here, waiting_past}
use Rattle.pt_readings.proofs.waiting.waiting_call_at.Goals as goal

pub returns-then-j-entries : goal.returns-then-j-entries
returns-then-j-entries c = sym (waiting_past c.args.entries.now c.args.j c.if-j-entries.true)

pub returns : goal.returns
returns c =
    waiting_here c.args.entries.now c.args.j c.index-entries-i.result
    c.waiting_calls_by.result c.if-j-entries.false c.index-entries-i.is
    c.waiting_calls_by.ensures
