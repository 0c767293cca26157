use Rattle.pt_check.proofs.Counting.{other_count, same_count}
use Rattle.pt_check.proofs.answered.is_answered.Goals as goal

pub returns-then-not-are_as_many : goal.returns-then-not-are_as_many
returns-then-not-are_as_many c =
    other_count c.args.due.now c.args.block.now.seen c.seen.result c.new.result
    c.are_as_many.result c.new.ensures c.seen.ensures c.are_as_many.ensures
    c.if-not-are_as_many.true

pub returns : goal.returns
returns c =
    same_count c.args.due.now c.args.block.now.seen c.seen.result c.new.result c.new-rows.result
    c.are_as_many.result c.is_each_seen.result c.new.ensures c.new-rows.ensures c.seen.ensures
    c.are_as_many.ensures c.if-not-are_as_many.false c.is_each_seen.ensures
