use Rattle.std.proofs.Common.{sym, ap, subst, arith, Option}
use Rattle.pt_timers.specs.declared.key.TimerKey.{TimerKey}
use Rattle.pt_timers.specs.Deadlines.{is_in, IsFirstDue}
use Rattle.pt_timers.specs.Orders.{is_due_at, timer_list}
use Rattle.pt_timers.proofs.FirstLemmas.{no-first, first-due, not-due}
use Rattle.pt_timers.proofs.timers.Timers.first_due.Goals as goal

pub returns-in_err-key : goal.returns-in_err-key
returns-in_err-key g c =
    let t = c.self.inside in
    subst (λ (found : Option TimerKey). IsFirstDue c.args.self.now c.args.clock c.args.now found)
    (sym c.from_residual.ensures)
    (no-first (timer_list t.orders) c.args.self.now c.self.view_is
    (is_due_at t.orders) c.self.invariant
    c.args.clock c.of.result.now (λ q. ap (λ order. is_in order q) c.of.ensures)
    c.in_err-key.ensures c.args.now)

pub returns-then-nanos : goal.returns-then-nanos
returns-then-nanos g c =
    let t = c.self.inside in
    let first = c.in_ok-key.ensures in
    rw c.in_ok-now.was
    (first-due (timer_list t.orders) c.args.self.now c.self.view_is (is_due_at t.orders)
    c.self.invariant c.args.clock c.of.result.now (λ q. ap (λ order. is_in order q) c.of.ensures)
    c.in_ok-key.key first.0 first.1 c.in_ok-now.field-0
    (omega (arith, c.nanos.ensures, c.if-nanos.true)))

pub returns-else-nanos : goal.returns-else-nanos
returns-else-nanos g c =
    let t = c.self.inside in
    let first = c.in_ok-key.ensures in
    rw c.in_ok-now.was
    (not-due (timer_list t.orders) c.args.self.now c.self.view_is
    (is_due_at t.orders) c.self.invariant
    c.args.clock c.of.result.now (λ q. ap (λ order. is_in order q) c.of.ensures)
    c.in_ok-key.key first.0 first.1 c.in_ok-now.field-0
    (omega (arith, c.nanos.ensures, c.if-nanos.false)))
