use Rattle.std.proofs.Common.{sym, ◌∙◌, below_more, arith}
use Rattle.pt_types.specs.RwlockTable.{has_lock}
use Rattle.pt_rwlock.specs.RwlockState.{view_for}
use Rattle.pt_records.proofs.LivingHolders.{number-at, number-nowhere}
use Rattle.pt_records.proofs.rwlock.any_holds.Goals as goal

pub returns-then-holds_lock : goal.returns-then-holds_lock
returns-then-holds_lock g c =
    sym (number-at (λ n. has_lock (view_for c.args.lock.now n)) c.args.clients.now c.loop-i.i
    (sym c.holds_lock.ensures ∙ c.if-holds_lock.true))

pub loop-i-preserved : goal.loop-i-preserved
loop-i-preserved g c =
    below_more _ _ c.loop-i.invariant (sym c.holds_lock.ensures ∙ c.if-holds_lock.false)

pub returns : goal.returns
returns g c =
    sym (number-nowhere (λ n. has_lock (view_for c.args.lock.now n)) c.args.clients.now
    (λ k lt. c.loop-i.invariant k (omega (arith, c.len-i-end.ensures.len))))
