use Rattle.std.proofs.Common.{ap, ◌∙◌}
use Rattle.pt_history.specs.Stored.{Stored, empty_store}
use Rattle.pt_history.proofs.stored.History.successor.Goals as goal

pub returns-clause-ok : goal.returns-clause-ok
returns-clause-ok g c =
    c.begin.ensures ∙ ap (λ (s : Stored). empty_store s.limit) c.self.view_is
