use Rattle.std.proofs.Common.{ap, ◌∙◌, cond, ◌==◌, ◌&&◌, None}
use Rattle.pt_timers.specs.Deadlines.{deadline_at, is_set_to}
use Rattle.pt_timers.proofs.TimerLemmas.{one-less, less-at}
use Rattle.pt_timers.proofs.timers.Timers.cancel.Goals as goal

pub invariant_of-self : goal.invariant_of-self
invariant_of-self g c =
    one-less c.self.inside.orders c.remove.new.self c.self.invariant c.args.clock c.args.nanos
    c.args.place c.remove.ensures

pub returns : goal.returns
returns g c p =
    less-at c.self.inside.orders c.remove.new.self c.self.invariant c.args.clock c.args.nanos
    c.args.place c.remove.ensures p
    ∙ ap (λ ts. cond ((c.args.place == p)
    && is_set_to c.args.clock c.args.nanos (deadline_at ts p)) None (deadline_at ts p))
    c.self.view_is
