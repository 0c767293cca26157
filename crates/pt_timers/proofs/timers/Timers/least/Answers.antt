use Rattle.std.proofs.Common.{sym, ap, subst, Option}
use Rattle.pt_types.specs.Times.{Timespec}
use Rattle.pt_timers.specs.Deadlines.{is_in, IsLeast}
use Rattle.pt_timers.specs.Orders.{is_due_at, timer_list}
use Rattle.pt_timers.proofs.FirstLemmas.{no-least, first-is-least, first-nanos}
use Rattle.pt_timers.proofs.timers.Timers.least.Goals as goal

pub returns-in_err-key : goal.returns-in_err-key
returns-in_err-key g c =
    let t = c.self.inside in
    subst (λ (found : Option Timespec). IsLeast c.args.self.now c.args.clock found)
    (sym c.from_residual.ensures)
    (no-least (timer_list t.orders) c.args.self.now c.self.view_is (is_due_at t.orders)
    c.self.invariant c.args.clock c.of.result.now (λ q. ap (λ order. is_in order q) c.of.ensures)
    c.in_err-key.ensures)

pub deadline_of-requires : goal.deadline_of-requires
deadline_of-requires g c =
    let t = c.self.inside in
    let first = c.in_ok-key.ensures in
    first-nanos (timer_list t.orders) c.args.self.now c.self.view_is (is_due_at t.orders)
    c.self.invariant c.args.clock c.of.result.now (λ q. ap (λ order. is_in order q) c.of.ensures)
    c.in_ok-key.key first.0 first.1

pub returns : goal.returns
returns g c =
    let t = c.self.inside in
    let first = c.in_ok-key.ensures in
    first-is-least (timer_list t.orders) c.args.self.now c.self.view_is (is_due_at t.orders)
    c.self.invariant c.args.clock c.of.result.now (λ q. ap (λ order. is_in order q) c.of.ensures)
    c.in_ok-key.key first.0 first.1 c.deadline_of.result c.deadline_of.ensures.nanos
    c.deadline_of.ensures.time
