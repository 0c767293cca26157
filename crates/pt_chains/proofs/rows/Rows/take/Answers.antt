use Rattle.std.proofs.Common.{◌≡◌, ◌==◌, ◌-◌, ◌∙◌, None, cond, length, min, nat_eq, ap, sym}
use Rattle.std.proofs.Common.{arith}
use Rattle.std.specs.HashMap.{spare}
use Rattle.slab.specs.Slab.{slab_len}
use Rattle.std.specs.Map.{lookup}
use Rattle.pt_chains.specs.Rows.{rows_by, rows_of}
use Rattle.pt_chains.proofs.OpenedLemmas.{unique-numbers}
use Rattle.pt_chains.proofs.OpenedRows.{closed-none}
use Rattle.pt_chains.proofs.RowChanges.{rows-taken, lookup-taken}
use Rattle.pt_chains.proofs.RowLemmas.{placed-there, unplaced-row, length-rows}
use Rattle.pt_chains.proofs.rows.Rows.take.Goals.{in-Some-1, in-None-1}
use Rattle.pt_chains.proofs.rows.Rows.take.Goals as goal

pub remove-requires-in-Some : goal.remove-requires-in-Some
remove-requires-in-Some g c =
    placed-there c.self.inside.places.entries c.self.inside.slots.slots c.self.invariant
    c.args.number c.in-Some.slot (sym c.remove.ensures.value ∙ c.in-Some.is)

pub invariant_of-self : goal.invariant_of-self
invariant_of-self g c =
    let emptied = c.remove-in-Some.ensures.updates in
    rows-taken c.self.inside.places.entries c.remove.new.self.entries c.self.inside.slots.slots
    c.remove-in-Some.new.self.slots c.args.number c.in-Some.slot c.self.invariant
    (sym c.remove.ensures.value ∙ c.in-Some.is) c.remove.ensures.updates.0 emptied.changed
    emptied.others (unique-numbers c.remove.new.self.entries c.remove.ensures.unique)

pub invariant_of-self-in-Some-2 : goal.invariant_of-self-in-Some-2
invariant_of-self-in-Some-2 g c =
    let emptied = c.remove-in-Some.ensures.updates in
    rows-taken c.self.inside.places.entries c.remove.new.self.entries c.self.inside.slots.slots
    c.remove-in-Some.new.self.slots c.args.number c.in-Some.slot c.self.invariant
    (sym c.remove.ensures.value ∙ c.in-Some.is) c.remove.ensures.updates.0 emptied.changed
    emptied.others (unique-numbers c.remove.new.self.entries c.remove.ensures.unique)

pub returns-in-Some-clause-rows : goal.returns-in-Some-clause-rows
returns-in-Some-clause-rows g c = λ x.
    let emptied = c.remove-in-Some.ensures.updates in
    let left : lookup (nat_eq x) (rows_of c.match-remove-2.self)
    ≡ lookup (nat_eq x) (rows_by c.remove.new.self.entries c.remove-in-Some.new.self.slots) =
    elim c.match-remove-2.branch [
      | in-Some-1 w ↦ ap (λ v. lookup (nat_eq x) (rows_of v)) w.self-is
      | in-None-1 w ↦ ap (λ v. lookup (nat_eq x) (rows_of v)) w.self-is
    ] in
    left
    ∙ (lookup-taken c.self.inside.places.entries c.remove.new.self.entries
    c.self.inside.slots.slots c.remove-in-Some.new.self.slots c.args.number c.in-Some.slot
    c.self.invariant (sym c.remove.ensures.value ∙ c.in-Some.is) c.remove.ensures.updates.0
    emptied.changed emptied.others x
    ∙ ap (λ v. cond (c.args.number == x) None (lookup (nat_eq x) (rows_of v))) c.self.view_is)

pub returns-in-Some-clause-room : goal.returns-in-Some-clause-room
returns-in-Some-clause-room g c =
    let places = c.remove.new.self in
    let slots = c.remove-in-Some.new.self in
    let left : length (rows_of c.match-remove-2.self)
    ≡ length (rows_by places.entries slots.slots) =
    elim c.match-remove-2.branch [
      | in-Some-1 w ↦ ap (λ v. length (rows_of v)) w.self-is
      | in-None-1 w ↦ ap (λ v. length (rows_of v)) w.self-is
    ] in
    let room : c.match-remove-2.self.room ≡ min (spare places) (slots.capacity - slab_len slots) =
    elim c.match-remove-2.branch [
      | in-Some-1 w ↦ ap (λ v. v.room) w.self-is
      | in-None-1 w ↦ ap (λ v. v.room) w.self-is
    ] in
    let len = rw c.in-Some.is at c.remove.ensures.len in
    omega (
      arith,
      left,
      room,
      len,
      ap (λ v. length (rows_of v)) c.self.view_is,
      ap (λ v. v.room) c.self.view_is,
      length-rows c.self.inside.places.entries c.self.inside.slots.slots,
      length-rows places.entries slots.slots,
      c.remove.ensures.spare,
      c.remove-in-Some.ensures.len,
      c.remove-in-Some.ensures.capacity,
    )

pub returns-in_default-clause-rows : goal.returns-in_default-clause-rows
returns-in_default-clause-rows g c = λ x.
    let places = c.self.inside.places.entries in
    let slots = c.self.inside.slots.slots in
    let same = rw c.in_default.is at c.remove.ensures.unchanged in
    ap (λ ps. lookup (nat_eq x) (rows_by ps slots)) same
    ∙ (closed-none (rows_by places slots) c.args.number x
    (unplaced-row places slots c.args.number (sym c.remove.ensures.value ∙ c.in_default.is))
    ∙ ap (λ v. cond (c.args.number == x) None (lookup (nat_eq x) (rows_of v))) c.self.view_is)
