use Rattle.pt_records.proofs.CallerWrites.{removes-caller}
use Rattle.pt_records.proofs.clients.dismiss.Goals as goal

pub returns : goal.returns
returns g c =
    rw (← c.c.view_is)
    (rw c.remove.ensures.rows
    (removes-caller c.args.clients.now c.c.inside.0 (rw c.c.view_is c.requires)))
