use Rattle.std.proofs.Common.{◌∙◌, ap, arith, refl}
use Rattle.pt_table.specs.declared.objects.ObjectRow.{ObjectRow}
use Rattle.pt_table.specs.ObjectRows.{with_link}
use Rattle.pt_table.proofs.Named.{IsNamed-written}
use Rattle.pt_table.proofs.Written.{IsNumbered-written, length-written, rows_changed}
use Rattle.pt_table.proofs.objects.Objects.set_link.Goals as goal

pub invariant_of-self : goal.invariant_of-self
invariant_of-self g c =
    let change : ObjectRow g.row.T.Denot → ObjectRow g.row.T.Denot =
    λ r. record r { link = c.of.result } in
    let row = c.index_mut.result.now in
    let slot = c.slot_by-slot.result in
    let h = c.self.invariant.0 in
    let here = c.index_mut.ensures.value in (
      IsNumbered-written row slot change (λ r. refl) h here,
      omega (
        arith,
        length-written row slot change (λ r. refl) h here,
        c.self.invariant.1,
      ),
      IsNamed-written row slot change (λ r. refl) refl h c.self.invariant.2 here,
    )

pub returns : goal.returns
returns g c =
    let change : ObjectRow g.row.T.Denot → ObjectRow g.row.T.Denot =
    λ r. record r { link = c.of.result } in
    rows_changed c.self.invariant.0 c.args.self.now c.self.view_is c.args.number
    c.slot_by-slot.result c.index_mut.result.now c.slot_by-slot.ensures c.index_mut.ensures.value
    change (λ r. refl)
    ∙ ap (with_link c.args.self.now c.args.number) c.of.ensures
