use Rattle.std.proofs.Common.{ap, sym, ◌∙◌}
use Rattle.pt_history.specs.declared.compact.TimeLimit.{TimeLimit}
use Rattle.pt_history.specs.Compact.{wait_until}
use Rattle.pt_history.proofs.compact.timed_wait.Goals as goal

pub returns-in-Timedwait : goal.returns-in-Timedwait
returns-in-Timedwait c =
    ap (λ (l : TimeLimit). wait_until c.in-Timedwait.cond c.in-Timedwait.mutex l.deadline l.clock)
    c.limit.ensures
    ∙ sym c.in-Timedwait.is

pub returns-in-Clockwait : goal.returns-in-Clockwait
returns-in-Clockwait c =
    ap (λ (l : TimeLimit). wait_until c.in-Clockwait.cond c.in-Clockwait.mutex l.deadline l.clock)
    c.limit-in-Clockwait.ensures
    ∙ sym c.in-Clockwait.is
