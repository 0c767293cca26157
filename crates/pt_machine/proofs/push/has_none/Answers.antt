use Rattle.std.proofs.Common.{not, ap, ◌∙◌}
use Rattle.pt_machine.proofs.TimerDrops.{unset-by}
use Rattle.pt_machine.proofs.push.has_none.Goals as goal

pub returns-in-None : goal.returns-in-None
returns-in-None g c = λ none p.
    unset-by c.args.timers.now c.least.result c.least-in-None.result c.least.ensures
    c.least-in-None.ensures c.in-None.is (c.is_none.ensures ∙ ap not none) p
