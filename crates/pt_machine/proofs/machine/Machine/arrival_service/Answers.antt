use Rattle.std.proofs.Common.{Some, sym, ap, ◌∙◌}
use Rattle.std.specs.Option.{option_copied}
use Rattle.pt_table.specs.ObjectRows.{object_value}
use Rattle.pt_machine.proofs.machine.Machine.arrival_service.Goals as goal

pub barrier_service-requires-clause-stored : goal.barrier_service-requires-clause-stored
barrier_service-requires-clause-stored g c =
    ap (object_value c.args.self.now.objects) (sym c.b.view_is)
    ∙ ap (λ t. object_value t.objects c.b.inside.0) (sym c.self.view_is)
    ∙ sym c.at.ensures
    ∙ ap option_copied c.in_ok-barrier.was
    ∙ ap Some c.in-Barrier.is
