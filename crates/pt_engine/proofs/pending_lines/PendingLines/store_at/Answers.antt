use Rattle.std.proofs.Common.{nat_eq, ap, ◌∙◌}
use Rattle.std.proofs.lemmas.Bool.Decides.{Decides-eqb}
use Rattle.pt_engine.specs.Engines.{PendingLinesView}
use Rattle.pt_engine.specs.Places.{key_at}
use Rattle.pt_engine.proofs.Keys.{found_write, placed_write}
use Rattle.pt_engine.proofs.pending_lines.PendingLines.store_at.Goals as goal

pub invariant_of-self : goal.invariant_of-self
invariant_of-self g c =
    let inside = c.self.inside in
    let at = ap (λ (a : PendingLinesView). key_at a.entries c.args.index) c.self.view_is
    ∙ c.requires in (
      placed_write nat_eq Decides-eqb inside.lines.items inside.places.entries
          c.self.invariant.0 c.args.index c.args.client c.index_mut.result.now at
          c.index_mut.ensures.value c.copied.result,
      c.self.invariant.1,
    )

pub returns : goal.returns
returns g c =
    let inside = c.self.inside in
    let at = ap (λ (a : PendingLinesView). key_at a.entries c.args.index) c.self.view_is
    ∙ c.requires in
    rw (← c.self.view_is, ← c.copied.ensures)
    (found_write nat_eq Decides-eqb inside.lines.items inside.places.entries
    c.self.invariant.0 c.args.index c.args.client c.index_mut.result.now at
    c.index_mut.ensures.value c.copied.result)
