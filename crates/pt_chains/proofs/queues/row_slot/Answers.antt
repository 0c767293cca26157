use Rattle.std.proofs.Common.{◌∙◌, sym}
use Rattle.pt_chains.specs.Rows.{rows_of}
use Rattle.pt_chains.proofs.OpenedRows.{open-more}
use Rattle.pt_chains.proofs.RowLemmas.{placed-listed, unplaced-row}
use Rattle.pt_chains.proofs.queues.row_slot.Goals as goal

pub returns-in-Some-clause-at : goal.returns-in-Some-clause-at
returns-in-Some-clause-at g c = sym c.slot_from.ensures ∙ c.in-Some.is

pub returns-in-Some-clause-listed : goal.returns-in-Some-clause-listed
returns-in-Some-clause-listed g c = λ x.
    let rows = c.args.rows.now in
    open-more (rows_of rows) c.args.object x
    (placed-listed rows.places rows.slots c.args.object c.in-Some.slot
    (sym c.slot_from.ensures ∙ c.in-Some.is))

pub returns-in-Some-clause-own : goal.returns-in-Some-clause-own
returns-in-Some-clause-own g c =
    let rows = c.args.rows.now in
    c.requires.noted
    (placed-listed rows.places rows.slots c.args.object c.in-Some.slot
    (sym c.slot_from.ensures ∙ c.in-Some.is))

pub add-slot-requires-clause-none : goal.add-slot-requires-clause-none
add-slot-requires-clause-none g c =
    unplaced-row c.args.rows.now.places c.args.rows.now.slots c.args.object
    (sym c.slot_from.ensures ∙ c.in_default.is)

pub add-slot-requires-clause-room : goal.add-slot-requires-clause-room
add-slot-requires-clause-room g c =
    c.requires.room
    (unplaced-row c.args.rows.now.places c.args.rows.now.slots c.args.object
    (sym c.slot_from.ensures ∙ c.in_default.is))
