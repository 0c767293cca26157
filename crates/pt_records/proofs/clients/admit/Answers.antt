use Rattle.pt_records.proofs.CallerWrites.{adds-caller}
use Rattle.pt_records.proofs.clients.admit.Goals as goal

pub returns-in-Ok-clause-ok : goal.returns-in-Ok-clause-ok
returns-in-Ok-clause-ok g c =
    rw (← c.c.view_is)
    (rw c.in-Ok.ensures.ok
    (adds-caller c.args.clients.now c.c.inside.0 c.args.caller (rw c.c.view_is c.requires.new)))
