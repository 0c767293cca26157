use Rattle.std.proofs.Common.{◌∙◌, Some, nat_eq, is_some, ap, sym}
use Rattle.std.specs.Map.{lookup}
use Rattle.std.specs.Option.{option_copied}
use Rattle.pt_chains.specs.Rows.{rows_of}
use Rattle.pt_chains.proofs.RowLemmas.{chains-there, found-there, placed-row}
use Rattle.pt_chains.proofs.RowLemmas.{placed-there, unplaced-row}
use Rattle.pt_chains.proofs.rows.Rows.queue_by_hash.Goals as goal

pub returns-in_err-slot : goal.returns-in_err-slot
returns-in_err-slot g c =
    ap option_copied c.from_residual.ensures
    ∙ (sym (unplaced-row c.self.inside.places.entries c.self.inside.slots.slots c.args.number
    (sym c.in_err-slot.ensures.value))
    ∙ ap (λ v. lookup (nat_eq c.args.number) (rows_of v)) c.self.view_is)

pub unwrap-requires : goal.unwrap-requires
unwrap-requires g c =
    found-there c.get-2.result
    ∙ (ap is_some c.get-2.ensures
    ∙ placed-there c.self.inside.places.entries c.self.inside.slots.slots c.self.invariant
    c.args.number c.in_ok-slot.field-0.now (sym c.in_ok-slot.ensures.value))

pub returns : goal.returns
returns g c =
    let slot = c.in_ok-slot.field-0.now in
    let row = sym c.get-2.ensures ∙ ap option_copied c.unwrap.ensures in
    ap (λ q. Some q) (chains-there c.self.inside.slots.slots slot c.unwrap.result.now row)
    ∙ (sym (placed-row c.self.inside.places.entries c.self.inside.slots.slots c.args.number slot
    (sym c.in_ok-slot.ensures.value))
    ∙ ap (λ v. lookup (nat_eq c.args.number) (rows_of v)) c.self.view_is)
