use Rattle.std.proofs.Common.{rules}
use Rattle.pt_types.proofs.NameLemmas.{word_all, short_front}
use Rattle.pt_types.proofs.name.short_block.Goals as goal

pub returns-clause-valid : goal.returns-clause-valid
returns-clause-valid c some =
    word_all c.in_ok-word.word c.args.bytes.now (search rules) c.in_ok-word.ensures.valid
    (c.is_valid_word.ensures c.if-not-is_valid_word.false)

pub returns-clause-front : goal.returns-clause-front
returns-clause-front c =
    short_front c.args.bytes.now _ _ c.in_ok-word.word _ _ c.joined.ensures c.paired.ensures
    (search rules) c.in_ok-word.ensures.within c.in_ok-word.ensures.front
