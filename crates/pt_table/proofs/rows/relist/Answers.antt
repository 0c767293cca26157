use Rattle.std.proofs.Common.{◌∙◌, ◌++◌, ◌∷◌, [], ap, nat_eq}
use Rattle.indexmap.proofs.CallerLemmas.{insert_entry-new}
use Rattle.pt_table.proofs.rows.relist.Goals as goal

pub returns : goal.returns
returns g c =
    let again = rw c.unwrap.ensures at c.insert-inserted.ensures.entries in
    again
    ∙ insert_entry-new nat_eq c.shift_remove.new.self c.args.number c.args.slot
    c.shift_remove.ensures.updates.1
    ∙ ap (λ es. es ++ (c.args.number, c.args.slot) ∷ []) c.shift_remove.ensures.entries
