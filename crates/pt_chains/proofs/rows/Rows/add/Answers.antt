use Rattle.std.proofs.Common.{◌==◌, ◌||◌, ◌∙◌, length, nat_eq, ap, subst, arith}
use Rattle.std.specs.Map.{lookup}
use Rattle.pt_waitq.specs.Waits.{is_listed}
use Rattle.pt_chains.specs.Chains.{numbers, Unique}
use Rattle.pt_chains.specs.OpenQueues.{queue_at}
use Rattle.pt_chains.specs.Rows.{rows_of}
use Rattle.pt_chains.proofs.OpenedLemmas.{unique-numbers}
use Rattle.pt_chains.proofs.RowChanges.{rows-added, chains-added, listed-added}
use Rattle.pt_chains.proofs.RowLemmas.{rows-once, no-place, length-rows, filled-row, one-more}
use Rattle.pt_chains.proofs.rows.Rows.add.Goals as goal

pub insert_reserved-slot-requires : goal.insert_reserved-slot-requires
insert_reserved-slot-requires g c =
    let once = subst (λ v. Unique (numbers (rows_of v))) c.self.view_is
    (rows-once c.self.inside.places.entries c.self.inside.slots.slots c.self.invariant) in
    let room = c.requires.room once in
    omega (arith, room, ap (λ v. v.room) c.self.view_is)

pub unwrap-requires : goal.unwrap-requires
unwrap-requires g c =
    let once = subst (λ v. Unique (numbers (rows_of v))) c.self.view_is
    (rows-once c.self.inside.places.entries c.self.inside.slots.slots c.self.invariant) in
    let room = c.requires.room once in
    c.insert-placed.ensures.succeeds (omega (arith, room, ap (λ v. v.room) c.self.view_is))

pub invariant_of-self : goal.invariant_of-self
invariant_of-self g c =
    let slots = c.self.inside.slots.slots in
    let none = no-place c.self.inside.places.entries slots c.args.number
    (ap (λ v. lookup (nat_eq c.args.number) (rows_of v)) c.self.view_is ∙ c.requires.none) in
    let placed = rw c.unwrap.ensures at c.insert-placed.ensures.updates in
    let filled = c.insert_reserved-slot.ensures.updates in
    rows-added c.self.inside.places.entries c.insert-placed.new.self.entries slots
    c.insert_reserved-slot.new.self.slots c.args.number c.insert_reserved-slot.result
    c.self.invariant none placed.0 c.insert_reserved-slot.ensures.was_vacant
    (filled-row c.args.number c.new.result _ filled.changed c.new.ensures) filled.others
    (unique-numbers c.insert-placed.new.self.entries c.insert-placed.ensures.unique)

pub returns-clause-unchanged : goal.returns-clause-unchanged
returns-clause-unchanged g c = λ x.
    let slots = c.self.inside.slots.slots in
    let none = no-place c.self.inside.places.entries slots c.args.number
    (ap (λ v. lookup (nat_eq c.args.number) (rows_of v)) c.self.view_is ∙ c.requires.none) in
    let placed = rw c.unwrap.ensures at c.insert-placed.ensures.updates in
    let filled = c.insert_reserved-slot.ensures.updates in
    ap (λ v. queue_at (rows_of v) x) c.note.ensures
    ∙ (chains-added c.self.inside.places.entries c.insert-placed.new.self.entries slots
    c.insert_reserved-slot.new.self.slots c.args.number c.insert_reserved-slot.result
    c.self.invariant none placed.0 c.insert_reserved-slot.ensures.was_vacant
    (filled-row c.args.number c.new.result _ filled.changed c.new.ensures) filled.others x
    ∙ ap (λ v. queue_at (rows_of v) x) c.self.view_is)

pub returns-clause-listed : goal.returns-clause-listed
returns-clause-listed g c = λ x.
    let slots = c.self.inside.slots.slots in
    let none = no-place c.self.inside.places.entries slots c.args.number
    (ap (λ v. lookup (nat_eq c.args.number) (rows_of v)) c.self.view_is ∙ c.requires.none) in
    let placed = rw c.unwrap.ensures at c.insert-placed.ensures.updates in
    let filled = c.insert_reserved-slot.ensures.updates in
    ap (λ v. is_listed x (numbers (rows_of v))) c.note.ensures
    ∙ (listed-added c.self.inside.places.entries c.insert-placed.new.self.entries slots
    c.insert_reserved-slot.new.self.slots c.args.number c.insert_reserved-slot.result
    c.self.invariant none placed.0 c.insert_reserved-slot.ensures.was_vacant
    (filled-row c.args.number c.new.result _ filled.changed c.new.ensures) filled.others x
    ∙ ap (λ v. is_listed x (numbers (rows_of v)) || (c.args.number == x)) c.self.view_is)

pub returns-clause-room : goal.returns-clause-room
returns-clause-room g c =
    let places = c.self.inside.places.entries in
    let slots = c.self.inside.slots.slots in
    let now = c.insert-placed.new.self.entries in
    let none = no-place places slots c.args.number
    (ap (λ v. lookup (nat_eq c.args.number) (rows_of v)) c.self.view_is ∙ c.requires.none) in
    let old = rw c.unwrap.ensures at c.insert-placed.ensures.old in
    let len = rw c.unwrap.ensures at c.insert-placed.ensures.len in
    omega (
      arith,
      ap (λ v. length (rows_of v)) c.self.view_is,
      ap (λ v. v.room) c.self.view_is,
      ap (λ v. length (rows_of v)) c.note.ensures,
      ap (λ v. v.room) c.note.ensures,
      length-rows places slots,
      length-rows now c.insert_reserved-slot.new.self.slots,
      one-more c.unwrap.result _ _ (old ∙ none) len,
      c.insert-placed.ensures.spare,
      c.insert_reserved-slot.ensures.len,
      c.insert_reserved-slot.ensures.capacity,
    )
