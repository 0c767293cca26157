use Rattle.std.proofs.Common.{rules}
use Rattle.pt_types.proofs.NameLemmas.{long_all, long_front}
use Rattle.pt_types.proofs.name.long_block.Goals as goal

pub returns-clause-valid : goal.returns-clause-valid
returns-clause-valid c some =
    long_all c.args.bytes.now c.in_ok-word.word (c.is_valid_block.ensures (search rules))
    (search rules) c.in_ok-word.ensures.valid (c.is_valid_word.ensures (search rules))

pub returns-clause-front : goal.returns-clause-front
returns-clause-front c =
    long_front c.args.bytes.now _ _ _ c.in_ok-word.word _ c.joined.ensures c.half_of.ensures
    c.paired.ensures (search rules) (search rules) (search rules) c.in_ok-word.ensures.front
