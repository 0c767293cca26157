use Rattle.std.proofs.Common.{ap, ◌∙◌}
use Rattle.pt_model.specs.Histories.{place}
use Rattle.pt_legal.specs.Cores.{history_of}
use Rattle.pt_engine.specs.Scripts.{core_of}
use Rattle.pt_engine.specs.Engines.{EngineView, as_script}
use Rattle.pt_engine.proofs.engine.Engine.entries.Goals as goal

pub returns : goal.returns
returns g c =
    c.len.ensures.value ∙ ap (λ (e : EngineView). place (history_of (core_of
    (as_script e)))) c.self.view_is
