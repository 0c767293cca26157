use Rattle.pt_rwlock.proofs.PlaceLemmas.{order-none}
use Rattle.pt_rwlock.proofs.rows.Rows.new.Goals as goal

pub invariant_of-result : goal.invariant_of-result
invariant_of-result g c = order-none c.new.result.items c.new.ensures.items
