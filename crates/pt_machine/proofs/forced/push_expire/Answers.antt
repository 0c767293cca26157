use Rattle.std.proofs.Common.{sym, ◌∙◌}
use Rattle.pt_machine.proofs.forced.push_expire.Goals as goal

pub push_wait_expiry-requires-clause-wait : goal.push_wait_expiry-requires-clause-wait
push_wait_expiry-requires-clause-wait g c = sym c.is_cond_wait.ensures ∙ c.if-is_cond_wait.true

pub push_lock_expiry-requires-clause-other : goal.push_lock_expiry-requires-clause-other
push_lock_expiry-requires-clause-other g c = sym c.is_cond_wait.ensures ∙ c.if-is_cond_wait.false
