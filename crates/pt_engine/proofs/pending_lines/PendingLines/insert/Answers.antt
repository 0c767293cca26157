use Rattle.std.proofs.Common.{nat_eq, sym, ap, ◌∙◌}
use Rattle.std.proofs.lemmas.Bool.Decides.{Decides-eqb}
use Rattle.pt_engine.specs.Engines.{PendingLinesView, latest_line}
use Rattle.pt_engine.proofs.Keys.{unplaced}
use Rattle.pt_engine.proofs.pending_lines.PendingLines.insert.Goals as goal

pub add-requires-clause-new : goal.add-requires-clause-new
add-requires-clause-new g c =
    let inside = c.self.inside in
    let none = sym (c.in-None.ensures ∙ c.get.ensures.value) in
    ap (λ k. latest_line c.args.self.now.entries k) (sym c.client.view_is)
    ∙ ap (λ (v : PendingLinesView). latest_line v.entries c.client.inside.0) (sym c.self.view_is)
    ∙ unplaced nat_eq Decides-eqb inside.lines.items inside.places.entries
    c.self.invariant.0 c.client.inside.0 none
