use Rattle.std.proofs.Common.{Option, ◌∙◌, ap, option_map}
use Rattle.pt_table.specs.ObjectRows.{object_value}
use Rattle.pt_model.specs.Objects.{barrier_count}
use Rattle.pt_records.specs.declared.objects.Object.{Object}
use Rattle.pt_records.specs.Objects.{kind_in_row}
use Rattle.pt_core.proofs.reading.count_at.Goals as goal

pub returns-in-Some : goal.returns-in-Some
returns-in-Some g c =
    c.count_in_row.ensures
    ∙ ap (λ (x : Option (Object g.row.A.Denot)). barrier_count (option_map kind_in_row x))
    (c.in-Some.ensures ∙ ap (object_value c.args.state.now.objects) c.b.view_is)
    ∙ ap barrier_count (c.requires.object_rows.look.kinds c.args.b)

pub returns-in-None : goal.returns-in-None
returns-in-None g c =
    ap (λ (x : Option (Object g.row.A.Denot)). barrier_count (option_map kind_in_row x))
    (c.in-None.ensures ∙ ap (object_value c.args.state.now.objects) c.b.view_is)
    ∙ ap barrier_count (c.requires.object_rows.look.kinds c.args.b)
