use Rattle.std.proofs.Common.{Option, ℕ, ap, ◌∙◌}
use Rattle.pt_types.specs.declared.views.MutexView.{MutexView}
use Rattle.pt_types.specs.MutexTable.{unlock_verdict}
use Rattle.pt_model.specs.Mutexes.{mutex_view}
use Rattle.pt_model.specs.Verdicts.{verdict_on}
use Rattle.pt_state.specs.Adds.{history_of}
use Rattle.pt_state.proofs.state.State.unlocks_verdict.Goals as goal

pub returns-in-Some : goal.returns-in-Some
returns-in-Some g c = c.verdict_unlock.ensures
    ∙ (ap (λ (v : MutexView). unlock_verdict v c.args.c) c.in-Some.ensures.view
    ∙ ap (λ (o : Option ℕ).
    verdict_on o (λ m. unlock_verdict (mutex_view (history_of c.args.self.now) m) c.args.c))
    c.in-Some.ensures.number)
