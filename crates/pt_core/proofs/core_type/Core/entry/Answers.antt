use Rattle.std.proofs.Common.{◌-◌, ◌<◌, ◌≤◌, sym, ap, ◌∙◌, subst}
use Rattle.std.specs.Prelude.{slice_get}
use Rattle.pt_legal.specs.Cores.{CoreView, core_state}
use Rattle.pt_core.proofs.core_type.Core.entry.Goals as goal

pub returns-clause-before : goal.returns-clause-before
returns-clause-before g c below =
    c.entry.ensures.before
    (rw c.deref.ensures
    (subst (λ (s : CoreView). c.args.place < (core_state s).start.at) (sym c.self.view_is) below))

pub returns-clause-since : goal.returns-clause-since
returns-clause-since g c from =
    c.entry.ensures.since
    (rw c.deref.ensures
    (subst (λ (s : CoreView). (core_state s).start.at ≤ c.args.place) (sym c.self.view_is) from))
    ∙ rw c.deref.ensures
    (ap (λ (s : CoreView). slice_get s.entries (c.args.place -
    (core_state s).start.at)) c.self.view_is)
