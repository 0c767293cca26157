use Rattle.std.proofs.Common.{◌∙◌, ap, arith, inl, refl, sym, Some}
use Rattle.std.specs.Option.{option_map}
use Rattle.pt_table.specs.declared.objects.ObjectRow.{ObjectRow}
use Rattle.pt_table.proofs.Named.{IsNamed-written}
use Rattle.pt_table.proofs.Written.{IsNumbered-written, length-written, row_found, rows_changed}
use Rattle.pt_table.proofs.objects.Objects.at_mut.Goals as goal

pub invariant_of-self-lent : goal.invariant_of-self-lent
invariant_of-self-lent g c = λ w.
    let change : ObjectRow g.row.T.Denot → ObjectRow g.row.T.Denot = λ r. record r { value = w } in
    let row = c.index_mut.result.now in
    let slot = c.in-Some.slot in
    let h = c.self.invariant.0 in
    let here = c.index_mut.ensures.value in (
      IsNumbered-written row slot change (λ r. refl) h here,
      omega (
        arith,
        length-written row slot change (λ r. refl) h here,
        c.self.invariant.1,
      ),
      IsNamed-written row slot change (λ r. refl) refl h c.self.invariant.2 here,
    )

pub returns-in-Some : goal.returns-in-Some
returns-in-Some g c =
    let change : g.row.T.Denot → ObjectRow g.row.T.Denot → ObjectRow g.row.T.Denot =
    λ w r. record r { value = w } in
    let at = c.in-Some.ensures.row in
    let here = c.index_mut.ensures.value in
    let found = row_found c.self.invariant.0 c.args.self.now c.self.view_is c.args.number
    c.in-Some.slot c.index_mut.result.now at here in (
      (λ i. inl (
        c.value_mut.result.ghost_name,
        λ w. rows_changed c.self.invariant.0
            c.args.self.now c.self.view_is c.args.number c.in-Some.slot c.index_mut.result.now at here
            (change w) (λ r. refl) i,
      )),
      record {
        lends = tt;
        value =
            ap Some c.value_mut.ensures.value ∙ sym (ap (option_map (λ r. r.value)) found);
      },
    )
