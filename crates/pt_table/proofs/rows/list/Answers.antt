use Rattle.std.proofs.Common.{◌≡◌, ◌∙◌, ◌++◌, ◌∷◌, [], ap, sym, nat_eq, None}
use Rattle.std.specs.Map.{lookup, remove_entry}
use Rattle.indexmap.proofs.CallerLemmas.{insert_entry-new}
use Rattle.pt_table.proofs.Lookups.{remove-absent, remove-inserted, none_of}
use Rattle.pt_table.proofs.rows.list.Goals as goal

pub returns-then-is_some : goal.returns-then-is_some
returns-then-is_some g c =
    let n = c.args.number in
    let entries = rw c.unwrap-before.ensures at c.insert-inserted.ensures.entries in
    c.relist.ensures
    ∙ ap (λ es. es ++ (n, c.args.slot) ∷ [])
    (ap (remove_entry (nat_eq n)) entries
    ∙ remove-inserted n c.args.slot c.args.slots.now.entries)

pub returns-else-is_some : goal.returns-else-is_some
returns-else-is_some g c =
    let n = c.args.number in
    let entries = rw c.unwrap-before.ensures at c.insert-inserted.ensures.entries in
    let before = rw c.unwrap-before.ensures at c.insert-inserted.ensures.old in
    let none : lookup (nat_eq n) c.args.slots.now.entries ≡ None =
    sym before ∙ none_of c.unwrap-before.result (sym c.is_some.ensures ∙ c.if-is_some.false) in
    entries
    ∙ insert_entry-new nat_eq c.args.slots.now n c.args.slot none
    ∙ ap (λ es. es ++ (n, c.args.slot) ∷ []) (sym (remove-absent n c.args.slots.now.entries none))
