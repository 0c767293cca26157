use Rattle.std.proofs.Common.{◌∙◌, nat_eq, ap, sym, subst}
use Rattle.std.specs.Map.{lookup}
use Rattle.pt_chains.specs.Rows.{AreRows, rows_by, rows_of}
use Rattle.pt_chains.proofs.OpenedLemmas.{unique-numbers}
use Rattle.pt_chains.proofs.RowLemmas.{rows-placed, placed-still}
use Rattle.pt_chains.proofs.rows.Rows.reserve.Goals as goal

pub invariant_of-self : goal.invariant_of-self
invariant_of-self g c =
    let now = c.reserve.new.self.entries in
    subst (λ s. AreRows now s.slots) (sym c.reserve-then-is_ok.ensures.rest_kept)
    (placed-still c.self.inside.places.entries now c.self.inside.slots.slots
    c.reserve.ensures.entries.2 c.self.invariant
    (unique-numbers now c.reserve.ensures.unique))

pub returns-then-is_ok-clause-unchanged : goal.returns-then-is_ok-clause-unchanged
returns-then-is_ok-clause-unchanged g c = λ x.
    let now = c.reserve.new.self.entries in
    ap (λ s. lookup (nat_eq x) (rows_by now s.slots)) c.reserve-then-is_ok.ensures.rest_kept
    ∙ (rows-placed c.self.inside.places.entries now c.self.inside.slots.slots
    c.reserve.ensures.entries.2 x
    ∙ ap (λ v. lookup (nat_eq x) (rows_of v)) c.self.view_is)
