use Rattle.std.proofs.Common.{List, ap}
use Rattle.pt_model.specs.StartRows.{rows_of_start, StartRows}
use Rattle.pt_history.specs.declared.compact.Compact.{Compact}
use Rattle.pt_history.specs.Stored.{entries_of}
use Rattle.pt_history.proofs.Views.{empty_store-seen, empty_store-within, empty_store-counted, empty_store-recorded}
use Rattle.pt_history.proofs.Views.{empty_store-base}
use Rattle.pt_history.proofs.stored.History.begin.Goals as goal

pub returns : goal.returns
returns g c =
    let at = c.new.result.at in
    empty_store-seen (rows_of_start c.new.result)
    (entries_of at c.args.records c.new-2.result.items)
    c.args.limit c.new.ensures.rows
    (ap (λ (x : List Compact). entries_of at c.args.records x) c.new-2.ensures.items)

pub invariant_of-result : goal.invariant_of-result
invariant_of-result g c =
    let at = c.new.result.at in
    let none = ap (λ (s : StartRows). s.at) c.new.ensures.rows in (
      empty_store-within at c.new-2.result.len c.args.limit c.new-2.result.cap none
          c.new-2.ensures.len,
      empty_store-counted (rows_of_start c.new.result)
          (entries_of at c.args.records c.new-2.result.items)
          c.new.ensures.rows
          (ap (λ (x : List Compact). entries_of at c.args.records x) c.new-2.ensures.items),
      empty_store-recorded c.args.records c.new-2.result.items c.new-2.ensures.items c.requires.room
          c.requires.within,
      empty_store-base at none,
    )
