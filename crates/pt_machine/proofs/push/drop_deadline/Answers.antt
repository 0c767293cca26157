use Rattle.std.proofs.Common.{sym, ap, ◌∙◌}
use Rattle.std.specs.Prelude.{option_map}
use Rattle.pt_timers.specs.Deadlines.{deadline_at}
use Rattle.pt_machine.proofs.TimedStates.{own-none, taken, unset}
use Rattle.pt_machine.proofs.push.drop_deadline.Goals as goal

pub returns-in-Some : goal.returns-in-Some
returns-in-Some g c =
    let w = c.args.call.now in
    taken c.args.timers.now c.cancel.new.self w.place w.clock c.in-Some.nanos
    (λ d e. sym (ap (option_map (λ n. (w.clock, n))) c.in-Some.is) ∙ c.requires d e)
    c.cancel.ensures

pub returns-in_default : goal.returns-in_default
returns-in_default g c p =
    let w = c.args.call.now in
    sym (unset (deadline_at c.args.timers.now) w.place
    (own-none c.args.timers.now w c.requires c.in_default.is) p)
