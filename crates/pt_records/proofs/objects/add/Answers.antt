use Rattle.pt_records.proofs.ObjectChanges.{adds-object}
use Rattle.pt_records.proofs.objects.add.Goals as goal

pub returns-in-Ok-clause-ok : goal.returns-in-Ok-clause-ok
returns-in-Ok-clause-ok g c =
    rw (← c.o.view_is)
    (rw c.in-Ok.ensures.ok
    (adds-object c.args.objects.now c.o.inside.0 c.args.name.now c.args.object
    (rw c.o.view_is c.requires.new) (rw c.o.view_is c.requires.rising)))
