use Rattle.std.proofs.Common.{◌∙◌}
use Rattle.pt_reference.proofs.Ends.{stood_new, stood_old}
use Rattle.pt_reference.proofs.after.new_waiting_call_at.Goals as goal

pub returns-then-i-entries : goal.returns-then-i-entries
returns-then-i-entries c =
    stood_new c.args.entries.now c.args.entry.now c.waiting_calls_by.result c.args.i
    c.waiting_calls_by.ensures c.if-i-entries.true

pub returns-else-i-entries : goal.returns-else-i-entries
returns-else-i-entries c =
    c.waiting_call_at.ensures
    ∙ stood_old c.args.entries.now c.args.entry.now c.args.i c.if-i-entries.false
