use Rattle.std.proofs.Common.{refl}
use Rattle.pt_types.proofs.NameLemmas.{one_front, one_stand}
use Rattle.pt_types.proofs.name.block_of.Goals as goal

pub returns-in-len1-clause-valid : goal.returns-in-len1-clause-valid
returns-in-len1-clause-valid c =
    one_stand c.args.bytes.now _ c.in-len1.len_at_least c.in-len1.len_below
    c.block_of_byte.ensures.valid

pub returns-in-len1-clause-front : goal.returns-in-len1-clause-front
returns-in-len1-clause-front c =
    one_front c.args.bytes.now _ c.in-len1.len_at_least c.in-len1.len_below
    c.block_of_byte.ensures.front

pub returns-in-Some-clause-valid : goal.returns-in-Some-clause-valid
returns-in-Some-clause-valid c = (λ some. c.in-Some.ensures.valid refl, λ all. refl)

pub returns-in-Some-clause-front : goal.returns-in-Some-clause-front
returns-in-Some-clause-front c = c.in-Some.ensures.front

pub returns-in-Some-long_block-clause-valid : goal.returns-in-Some-long_block-clause-valid
returns-in-Some-long_block-clause-valid c =
    (λ some. c.in-Some-long_block.ensures.valid refl, λ all. refl)

pub returns-in-Some-long_block-clause-front : goal.returns-in-Some-long_block-clause-front
returns-in-Some-long_block-clause-front c = c.in-Some-long_block.ensures.front

pub returns-clause-valid : goal.returns-clause-valid
returns-clause-valid c = c.any_block.ensures.valid

pub returns-clause-front : goal.returns-clause-front
returns-clause-front c = c.any_block.ensures.front
