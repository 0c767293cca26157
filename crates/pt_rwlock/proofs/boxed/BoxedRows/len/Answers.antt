use Rattle.std.proofs.Common.{ap, sym, ◌∙◌, []}
use Rattle.std.specs.Prelude.{unwrap_or}
use Rattle.std.specs.Option.{option_map}
use Rattle.pt_rwlock.proofs.PlaceLemmas.{order-none}
use Rattle.pt_rwlock.proofs.boxed.BoxedRows.len.Goals as goal

pub returns-in-None-clause-ordered : goal.returns-in-None-clause-ordered
returns-in-None-clause-ordered g c =
    order-none c.args.self.now
    (sym c.self.view_is ∙ ap (λ boxed. unwrap_or (option_map (λ b. b.value) boxed) []) c.in-None.is)
