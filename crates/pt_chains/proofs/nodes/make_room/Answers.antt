use Rattle.pt_chains.proofs.GrowthLemmas.{on-ok, few-more}
use Rattle.pt_chains.proofs.nodes.make_room.Goals as goal

pub returns-clause-within : goal.returns-clause-within
returns-clause-within g c =
    on-ok c.reserve-2.result _
    (few-more c.len.result _ c.len.ensures.len c.if-len-ge-MAX_NODES.false)
