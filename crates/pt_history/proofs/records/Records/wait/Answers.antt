use Rattle.std.proofs.Common.{ℕ, List, ap, ◌∙◌}
use Rattle.pt_types.specs.declared.call.Call.TheVariants.{Wait}
use Rattle.pt_history.specs.Compact.{text_at}
use Rattle.pt_history.proofs.records.Records.wait.Goals as goal

pub returns : goal.returns
returns g c =
    ap (λ (n : List ℕ). Wait n c.name.result) c.name-cond.ensures
    ∙ ap (Wait (text_at c.args.self.now.texts.items c.args.from c.args.first)) c.name.ensures
