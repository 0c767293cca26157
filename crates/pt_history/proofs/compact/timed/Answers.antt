use Rattle.std.proofs.Common.{ap, sym, ◌∙◌}
use Rattle.pt_types.specs.declared.operations.LockKind.TheVariants.{MutexLock, ReadLock, WriteLock}
use Rattle.pt_history.specs.declared.compact.TimeLimit.{TimeLimit}
use Rattle.pt_history.specs.Compact.{with_limit}
use Rattle.pt_history.proofs.compact.timed.Goals as goal

pub returns-in-Timedlock : goal.returns-in-Timedlock
returns-in-Timedlock c =
    ap (λ (l : TimeLimit). with_limit MutexLock c.in-Timedlock.name l.deadline l.clock)
    c.limit.ensures
    ∙ sym c.in-Timedlock.is

pub returns-in-Clocklock : goal.returns-in-Clocklock
returns-in-Clocklock c =
    ap (λ (l : TimeLimit). with_limit MutexLock c.in-Clocklock.name l.deadline l.clock)
    c.limit-in-Clocklock.ensures
    ∙ sym c.in-Clocklock.is

pub returns-in-Timedrdlock : goal.returns-in-Timedrdlock
returns-in-Timedrdlock c =
    ap (λ (l : TimeLimit). with_limit ReadLock c.in-Timedrdlock.name l.deadline l.clock)
    c.limit-in-Timedrdlock.ensures
    ∙ sym c.in-Timedrdlock.is

pub returns-in-Clockrdlock : goal.returns-in-Clockrdlock
returns-in-Clockrdlock c =
    ap (λ (l : TimeLimit). with_limit ReadLock c.in-Clockrdlock.name l.deadline l.clock)
    c.limit-in-Clockrdlock.ensures
    ∙ sym c.in-Clockrdlock.is

pub returns-in-Timedwrlock : goal.returns-in-Timedwrlock
returns-in-Timedwrlock c =
    ap (λ (l : TimeLimit). with_limit WriteLock c.in-Timedwrlock.name l.deadline l.clock)
    c.limit-in-Timedwrlock.ensures
    ∙ sym c.in-Timedwrlock.is

pub returns-in-Clockwrlock : goal.returns-in-Clockwrlock
returns-in-Clockwrlock c =
    ap (λ (l : TimeLimit). with_limit WriteLock c.in-Clockwrlock.name l.deadline l.clock)
    c.limit-in-Clockwrlock.ensures
    ∙ sym c.in-Clockwrlock.is
