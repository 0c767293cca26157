use Rattle.std.proofs.Common.{◌∙◌, Some, refl, rules, sym, ap}
use Rattle.std.specs.Option.{option_copied_mut}
use Rattle.pt_engine.specs.declared.names.Row.{Row}
use Rattle.pt_engine.specs.Names.{LineCounts, lines_in, row_of_name}
use Rattle.pt_engine.proofs.Rows.{given}
use Rattle.pt_engine.proofs.names.Counts.give.Goals as goal

pub unwrap-requires : goal.unwrap-requires
unwrap-requires g c =
    let seen = ap (λ (k : LineCounts). row_of_name k.rows c.args.name.now) c.self.view_is in
    search rules

pub returns : goal.returns
returns g c =
    let inside = c.self.inside in
    let name = c.args.name.now in
    let row = c.unwrap.result.now in
    let named : Row = record { lines = row.lines; client = Some c.args.client } in
    let had = sym c.get_mut.ensures.value ∙ ap option_copied_mut c.unwrap.ensures in
    let set = ((c.get_mut.follows.holds named).3 (search rules)).0 in
    let old : LineCounts =
    record { rows = inside.rows.entries; star = inside.star; unknown = inside.unknown } in
    rw (← c.self.view_is)
    (given old _ name named set c.args.client (sym (ap lines_in had)) refl)
