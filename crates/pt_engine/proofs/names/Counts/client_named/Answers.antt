use Rattle.std.proofs.Common.{◌∙◌, sym, ap}
use Rattle.std.specs.Option.{option_copied}
use Rattle.pt_engine.specs.Names.{LineCounts, client_of_row, row_of_name}
use Rattle.pt_engine.proofs.names.Counts.client_named.Goals as goal

pub returns-in-Some : goal.returns-in-Some
returns-in-Some g c =
    ap client_of_row (ap option_copied (sym c.in-Some.is) ∙ c.get.ensures.value)
    ∙ ap (λ (k : LineCounts). client_of_row (row_of_name k.rows c.args.name.now)) c.self.view_is

pub returns-in-None : goal.returns-in-None
returns-in-None g c =
    ap client_of_row (ap option_copied (sym c.in-None.is) ∙ c.get.ensures.value)
    ∙ ap (λ (k : LineCounts). client_of_row (row_of_name k.rows c.args.name.now)) c.self.view_is
