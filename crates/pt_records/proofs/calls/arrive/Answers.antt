use Rattle.pt_records.specs.Arrivals.{caller_after_arrival}
use Rattle.pt_records.proofs.CallerWrites.{writes-by}
use Rattle.pt_records.proofs.RowKinds.{no-client}
use Rattle.pt_records.proofs.calls.arrive.Goals as goal

pub returns-in-Some : goal.returns-in-Some
returns-in-Some g c =
    rw (c.level.ensures.value, ← c.c.view_is)
    (writes-by (caller_after_arrival c.args.place c.c.inside.0 c.args.b c.args.clock)
    c.args.clients.now
    c.c.inside.0 c.in-Some.row.now c.in-Some.ensures.value)

pub returns-in_default : goal.returns-in_default
returns-in_default g c = λ v e.
    absurd (no-client c.args.clients.now c.c.inside.0 c.args.c c.c.view_is
    c.in_default.ensures.value v e)
