use Rattle.std.proofs.Common.{nat_eq, ap, ◌∙◌}
use Rattle.std.proofs.lemmas.Bool.Decides.{Decides-eqb}
use Rattle.pt_engine.specs.Engines.{PendingLinesView, latest_line}
use Rattle.pt_engine.proofs.Keys.{placed_more, found_more}
use Rattle.pt_engine.proofs.pending_lines.PendingLines.add.Goals as goal

pub invariant_of-self : goal.invariant_of-self
invariant_of-self g c =
    let inside = c.self.inside in
    let key = c.client.inside.0 in
    let none =
    ap (λ (v : PendingLinesView). latest_line v.entries key) c.self.view_is
    ∙ ap (λ k. latest_line c.args.self.now.entries k) c.client.view_is
    ∙ c.requires.new in
    let put = rw c.unwrap.ensures at c.insert-inserted.ensures.updates in
    let last = c.len-index.ensures ∙ inside.lines.ok.0 in (
      rw c.push_reserved.ensures.items
          (placed_more nat_eq Decides-eqb inside.lines.items inside.places.entries
          c.self.invariant.0 key c.copied.result c.insert-inserted.new.self.entries
          c.len-index.result none last put.0),
      tt,
    )

pub returns : goal.returns
returns g c =
    let lines = c.self.inside.lines in
    let none =
    ap (λ (v : PendingLinesView). latest_line v.entries c.client.inside.0) c.self.view_is
    ∙ ap (λ k. latest_line c.args.self.now.entries k) c.client.view_is
    ∙ c.requires.new in
    rw (c.push_reserved.ensures.items, ← c.self.view_is, ← c.client.view_is, ← c.copied.ensures)
    (found_more nat_eq Decides-eqb lines.items c.client.inside.0 c.copied.result none)
