use Rattle.std.proofs.Common.{nat_eq, sym, ◌∙◌}
use Rattle.std.proofs.lemmas.Bool.Decides.{Decides-eqb}
use Rattle.pt_engine.proofs.Keys.{placed, row_read}
use Rattle.pt_engine.proofs.pending_lines.PendingLines.get.Goals as goal

pub returns-in-Some : goal.returns-in-Some
returns-in-Some g c =
    let inside = c.self.inside in
    let index = c.unwrap_or-index.result in
    let row = c.in-Some.field-0.now in
    let found = rw c.deref.ensures.value at c.in-Some.ensures.lookup in
    rw (← c.self.view_is)
    (sym (placed nat_eq Decides-eqb inside.lines.items inside.places.entries
    c.self.invariant.0 index c.args.client row.1
    (row_read inside.lines.items index row c.args.client found.3.0 found.1
    (c.if-number-client.true ∙ c.client.view_is))))
