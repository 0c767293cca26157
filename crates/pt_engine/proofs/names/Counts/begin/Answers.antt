use Rattle.std.proofs.Common.{◌∙◌, None, refl, ap}
use Rattle.std.specs.Str.{bytes_eq}
use Rattle.indexmap.proofs.CallerLemmas.{insert_entry-new}
use Rattle.pt_engine.specs.declared.names.Row.{Row}
use Rattle.pt_engine.specs.Names.{LineCounts, row_of_name}
use Rattle.pt_engine.proofs.Keys.{key_at-new}
use Rattle.pt_engine.proofs.Rows.{begun_alike}
use Rattle.pt_engine.proofs.names.Counts.begin.Goals as goal

pub returns-in-Ok-clause-at : goal.returns-in-Ok-clause-at
returns-in-Ok-clause-at g c =
    let rows = c.self.inside.rows in
    let name = c.args.name.now in
    let row : Row = record { lines = 0; client = None } in
    let none = ap (λ (k : LineCounts). row_of_name k.rows name) c.self.view_is ∙ c.requires in
    let more = rw c.copied.ensures at c.in-Ok.ensures.entries in
    rw (more ∙ insert_entry-new bytes_eq rows name row none, c.len-index.ensures.len)
    (key_at-new rows.entries name row)

pub returns-in-Ok-clause-alike : goal.returns-in-Ok-clause-alike
returns-in-Ok-clause-alike g c =
    let inside = c.self.inside in
    let name = c.args.name.now in
    let row : Row = record { lines = 0; client = None } in
    let none = ap (λ (k : LineCounts). row_of_name k.rows name) c.self.view_is ∙ c.requires in
    let updates = rw c.copied.ensures at c.in-Ok.ensures.updates in
    let old : LineCounts =
    record { rows = inside.rows.entries; star = inside.star; unknown = inside.unknown } in
    rw (← c.self.view_is) (begun_alike old _ name row updates.0 none refl refl)
