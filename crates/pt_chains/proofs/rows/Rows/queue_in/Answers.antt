use Rattle.std.proofs.Common.{◌∙◌, Some, nat_eq, ap, sym}
use Rattle.std.specs.Map.{lookup}
use Rattle.std.specs.Option.{option_copied}
use Rattle.pt_chains.specs.Rows.{rows_of}
use Rattle.pt_chains.proofs.RowLemmas.{row-here}
use Rattle.pt_chains.proofs.rows.Rows.queue_in.Goals as goal

pub returns-in-Some : goal.returns-in-Some
returns-in-Some g c =
    let row = c.in-Some.field-0.now in
    ap (λ v. lookup (nat_eq c.args.number) (rows_of v)) (sym c.self.view_is)
    ∙ row-here c.self.inside.places.entries c.self.inside.slots.slots c.self.invariant
    c.args.number c.args.slot row.1
    (sym c.get.ensures
    ∙ (ap option_copied c.in-Some.is ∙ ap (λ n. Some (n, row.1)) c.if-own-number.true))
