use Rattle.std.proofs.Common.{◌-◌, Some, ap, sym, ◌∙◌, arith}
use Rattle.pt_model.specs.StartRows.{rows_of_start}
use Rattle.pt_model.specs.declared.entry.Entry.{Entry}
use Rattle.pt_history.specs.Records.{parts_of}
use Rattle.pt_history.specs.Stored.{entries_of}
use Rattle.pt_history.proofs.Found.{stored-at, seen-at, seen-past, seen-start}
use Rattle.pt_history.proofs.stored.History.entry.Goals as goal

pub returns-then-place-self-clause-since : goal.returns-then-place-self-clause-since
returns-then-place-self-clause-since g c =
    let i = c.self.inside in
    let at = seen-start c.args.self.now (rows_of_start i.start)
    (entries_of i.start.at i.records i.entries.items) i.limit i.room c.self.view_is in
    λ h. absurd (omega (arith, h, at, c.if-place-self.true))

pub returns-in_err-compact-clause-since : goal.returns-in_err-compact-clause-since
returns-in_err-compact-clause-since g c =
    let i = c.self.inside in
    λ h. c.from_residual.ensures
    ∙ sym (seen-past c.args.self.now (rows_of_start i.start) i.limit i.room c.args.place
    i.records i.entries.items c.deref.result.now c.self.view_is c.deref.ensures.value
    c.in_err-compact.ensures.lookup.3)

pub entry-requires-clause-base : goal.entry-requires-clause-base
entry-requires-clause-base g c =
    omega (arith, c.self.invariant.3, c.self.invariant.0.places)

pub entry-requires-clause-stored : goal.entry-requires-clause-stored
entry-requires-clause-stored g c =
    let i = c.self.inside in
    let found = c.in_ok-compact.ensures.lookup in
    stored-at (parts_of i.records) c.deref.result.now i.entries.items
    (c.args.place - i.start.at) c.in_ok-compact.field-0.now c.deref.ensures.value found.3.0 found.1
    c.self.invariant.2.stored

pub returns-clause-before : goal.returns-clause-before
returns-clause-before g c =
    let i = c.self.inside in
    let at = seen-start c.args.self.now (rows_of_start i.start)
    (entries_of i.start.at i.records i.entries.items) i.limit i.room c.self.view_is in
    λ h. absurd (omega (arith, h, at, c.if-place-self.false))

pub returns-clause-since : goal.returns-clause-since
returns-clause-since g c =
    let i = c.self.inside in
    let found = c.in_ok-compact.ensures.lookup in
    λ h. ap (λ (e : Entry). Some e) c.entry.ensures
    ∙ sym (seen-at c.args.self.now (rows_of_start i.start) i.limit i.room c.args.place
    i.base i.records i.entries.items c.deref.result.now c.in_ok-compact.field-0.now c.self.view_is
    c.self.invariant.3 c.deref.ensures.value found.3.0 found.1)
