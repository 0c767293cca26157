use Rattle.pt_chains.proofs.RowLemmas.{rows-none}
use Rattle.pt_chains.proofs.rows.Rows.new.Goals as goal

pub invariant_of-result : goal.invariant_of-result
invariant_of-result g c = rows-none _ _ c.new.ensures.empty c.new-2.ensures.empty
