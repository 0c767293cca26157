use Rattle.std.proofs.Common.{◌≡◌, false}
use Rattle.pt_waitq.specs.declared.waiter.Waiter.{Waiter}
use Rattle.pt_rwlock.specs.AwaitedLock.{SaysBlocked}
use Rattle.pt_rwlock.specs.RwlockState.{is_grantable_to}
use Rattle.pt_rwlock.proofs.ViewRows.{first-writes, none-holds, some-holds}
use Rattle.pt_rwlock.proofs.object.RwObj.grantable.Goals as goal

pub returns-in-Some-clause-some : goal.returns-in-Some-clause-some
returns-in-Some-clause-some g c =
    first-writes c.args.self.now c.args.first c.in-Some.waiter c.is_free.result c.in-Some.is
    c.if-waiter.true c.is_free.ensures

pub returns-in-Some-clause-none : goal.returns-in-Some-clause-none
returns-in-Some-clause-none g c =
    some-holds c.args.first c.in-Some.waiter (c.is_free.result ≡ false) c.in-Some.is

pub returns-in-None-clause-some : goal.returns-in-None-clause-some
returns-in-None-clause-some g c = λ blocked.
    none-holds c.args.first
    (λ (w : Waiter). SaysBlocked c.args.self.now w.prio blocked
    → false ≡ is_grantable_to c.args.self.now.lock w blocked) c.in-None.is
