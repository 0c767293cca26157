use Rattle.pt_records.proofs.ObjectChanges.{removes-object}
use Rattle.pt_records.proofs.objects.remove.Goals as goal

pub returns : goal.returns
returns g c =
    rw (← c.o.view_is)
    (rw c.remove.ensures.rows
    (removes-object c.args.objects.now c.o.inside.0 (rw c.o.view_is c.requires)))
