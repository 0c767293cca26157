use Rattle.std.proofs.Common.{None, ◌∙◌}
use Rattle.std.proofs.lemmas.List.{get_or-replicate}
use Rattle.pt_types.specs.Limits.{max_priority}
use Rattle.pt_chains.proofs.sides.no_side.Goals as goal

pub returns-clause-counts : goal.returns-clause-counts
returns-clause-counts c p lt = get_or-replicate max_priority p 0 0 lt

pub returns-clause-heads : goal.returns-clause-heads
returns-clause-heads c p lt =
    get_or-replicate max_priority p c.none-nowhere.result None lt ∙ c.none-nowhere.ensures

pub returns-clause-tails : goal.returns-clause-tails
returns-clause-tails c p lt =
    get_or-replicate max_priority p c.none-nowhere.result None lt ∙ c.none-nowhere.ensures
