use Rattle.std.proofs.Common.{◌≡◌, ◌∙◌, None, Some, subst, sym}
use Rattle.pt_types.specs.Limits.{max_objects}
use Rattle.pt_table.specs.NameSlots.{IsSet}
use Rattle.pt_table.specs.ObjectRows.{row_with_name}
use Rattle.pt_table.proofs.Added.{one_more}
use Rattle.pt_table.proofs.Kept.{rows-same}
use Rattle.pt_table.proofs.Named.{named_added, unnamed}
use Rattle.pt_table.proofs.objects.Objects.enter.Goals as goal

pub invariant_of-self-2 : goal.invariant_of-self-2
invariant_of-self-2 g c =
    let put = c.put-slot.ensures in
    let old = c.self.inside.rows in
    let now = c.reserve_one.new.self in
    let same = rows-same (λ row. row.number) old.rows.slots now.rows.slots old.slots.entries
    now.slots.entries c.reserve_one.ensures.rows c.reserve_one.ensures.numbers in (
      put.numbered,
      one_more c.args.self.now _ _ _ max_objects put.rows (same ∙ c.self.view_is)
          c.requires.room,
      named_added c.self.invariant.0 c.self.invariant.2 c.args.self.now c.self.view_is
          now.rows.slots c.reserve_one-2.new.self.slots.entries
          c.reserve_one.ensures.rows c.reserve_one-2.ensures.slots
          c.put-slot.new.self.rows.slots c.insert.new.self.slots.entries _ c.put-slot.result
          put.row put.others
          (subst (λ n. IsSet c.reserve_one-2.new.self.slots.entries n (Some c.put-slot.result)
          c.insert.new.self.slots.entries) (sym c.copied.ensures) c.insert.ensures)
          (subst (λ n. row_with_name c.args.self.now n ≡ None) (sym c.copied.ensures)
          (unnamed c.args.self.now c.args.number c.args.name.now c.requires.new)),
    )
