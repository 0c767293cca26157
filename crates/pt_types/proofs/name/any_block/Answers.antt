use Rattle.std.proofs.Common.{rules, ◌∙◌, ap, length, take}
use Rattle.pt_types.proofs.NameLemmas.{halves}
use Rattle.pt_types.proofs.name.any_block.Goals as goal

pub returns-clause-front : goal.returns-clause-front
returns-clause-front c =
    ap (take (length c.args.bytes.now))
    (c.joined.ensures
    ∙ halves c.filled_up-block.result _ _ 16 (search rules) c.half_of.ensures c.half_of-2.ensures
    (search rules))
    ∙ c.filled_up-block.ensures
