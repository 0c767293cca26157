use Rattle.pt_chains.proofs.OpenedLemmas.{queues-none}
use Rattle.pt_chains.proofs.queues.Queues.new.Goals as goal

pub invariant_of-result : goal.invariant_of-result
invariant_of-result g c = queues-none _ _ _ _ c.new-2.ensures c.new.ensures
