use Rattle.std.proofs.Common.{sym, ap, ◌∙◌, unwrap_or}
use Rattle.pt_machine.proofs.cond.mutex_of_waits.Goals as goal

pub returns-in-Some : goal.returns-in-Some
returns-in-Some g c = ap (λ o. unwrap_or o 0) (sym c.in-Some.is ∙ c.bound_at.ensures)

pub returns-in-None : goal.returns-in-None
returns-in-None g c = ap (λ o. unwrap_or o 0) (sym c.in-None.is ∙ c.bound_at.ensures)
