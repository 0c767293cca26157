use Rattle.std.proofs.Common.{◌-◌, ◌∙◌, take, sym, ap, arith}
use Rattle.std.specs.Prelude.{slice_index_or}
use Rattle.pt_table.specs.Linked.{last_number}
use Rattle.pt_table.proofs.Relinked.{last-put}
use Rattle.pt_table.proofs.Sorted.{no-front, one-more}
use Rattle.pt_table.proofs.sorting.number_ahead.Goals as goal

pub returns-then-i-eq0 : goal.returns-then-i-eq0
returns-then-i-eq0 c =
    sym (ap last_number (no-front c.args.i c.args.numbers.now (omega (arith, c.if-i-eq0.true))))

pub returns-else-i-eq0 : goal.returns-else-i-eq0
returns-else-i-eq0 c =
    sym (ap last_number (one-more c.args.i c.args.numbers.now (omega (arith, c.if-i-eq0.false))
    (omega (arith, c.requires)))
    ∙ last-put (take (c.args.i - 1) c.args.numbers.now)
    (slice_index_or c.args.numbers.now (c.args.i - 1) 0))
