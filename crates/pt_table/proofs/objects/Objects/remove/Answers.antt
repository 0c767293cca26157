use Rattle.std.proofs.Common.{◌∙◌, ℕ, ap, arith, length}
use Rattle.pt_table.specs.Slots.{rows_of}
use Rattle.pt_table.specs.declared.objects.ObjectRow.{ObjectRow}
use Rattle.pt_table.proofs.Named.{named_removed}
use Rattle.pt_table.proofs.Removed.{no_more}
use Rattle.pt_table.proofs.objects.Objects.remove.Goals as goal

pub invariant_of-self-2 : goal.invariant_of-self-2
invariant_of-self-2 g c =
    let took = c.in_ok-row.ensures in
    let packed = c.pack_if_sparse.ensures in
    let number : ObjectRow g.row.T.Denot → ℕ = λ row. row.number in
    let less = no_more number (rows_of number c.self.inside.rows) c.args.number in (
      packed.numbered,
      omega (arith, ap length (packed.rows ∙ took.rows), less, c.self.invariant.1),
      rw packed.slots
          (named_removed c.self.invariant.0 c.self.invariant.2 c.take.new.self.rows.slots
          c.in_ok-row.row took.slots c.forget.new.self.slots.entries c.forget.ensures),
    )
