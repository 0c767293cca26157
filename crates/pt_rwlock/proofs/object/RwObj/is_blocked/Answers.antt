use Rattle.std.proofs.Common.{ℕ, ◌-◌, subst}
use Rattle.std.specs.Prelude.{IsTrue, ◌↔◌}
use Rattle.pt_lanes.specs.Counts.{AnyFrom}
use Rattle.pt_rwlock.specs.AwaitedLock.{AwaitedLock}
use Rattle.pt_rwlock.proofs.object.RwObj.is_blocked.Goals as goal

pub returns : goal.returns
returns g c =
    subst (λ (s : AwaitedLock). IsTrue c.any_from.result
    ↔ AnyFrom s.waiting (c.args.priority - 1)) c.self.view_is
    (subst (λ (n : ℕ). IsTrue c.any_from.result
    ↔ AnyFrom c.self.inside.waiting_writers (n - 1)) c.level.ensures.value c.any_from.ensures)
