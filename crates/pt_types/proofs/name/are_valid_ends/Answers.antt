use Rattle.std.proofs.Common.{rules}
use Rattle.pt_types.proofs.NameLemmas.{both_ends}
use Rattle.pt_types.proofs.name.are_valid_ends.Goals as goal

pub returns-then-is_valid_word : goal.returns-then-is_valid_word
returns-then-is_valid_word c all =
    both_ends c.args.bytes.now 8 _ (search rules) (search rules) (search rules)
    (c.is_valid_word.ensures (search rules)) (c.is_valid_word-then-is_valid_word.ensures all)

pub returns-then-is_valid_block : goal.returns-then-is_valid_block
returns-then-is_valid_block c all =
    both_ends c.args.bytes.now 16 _ (search rules) (search rules) (search rules)
    (c.is_valid_block.ensures (search rules)) (c.is_valid_block-then-is_valid_block.ensures all)
