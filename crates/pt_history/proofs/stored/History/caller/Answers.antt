use Rattle.std.proofs.Common.{◌-◌, ap, sym, ◌∙◌, arith}
use Rattle.pt_model.specs.StartRows.{rows_of_start}
use Rattle.pt_history.specs.Records.{parts_of}
use Rattle.pt_history.specs.Stored.{caller_in}
use Rattle.pt_history.proofs.Found.{stored-at, seen-at, seen-past}
use Rattle.pt_history.proofs.stored.History.caller.Goals as goal

pub returns-in_err-compact : goal.returns-in_err-compact
returns-in_err-compact g c =
    let i = c.self.inside in
    c.from_residual.ensures
    ∙ ap caller_in (sym (seen-past c.args.self.now
    (rows_of_start i.start) i.limit i.room c.args.place
    i.records i.entries.items c.deref.result.now c.self.view_is c.deref.ensures.value
    c.in_err-compact.ensures.lookup.3))

pub caller-requires-clause-base : goal.caller-requires-clause-base
caller-requires-clause-base g c =
    omega (arith, c.self.invariant.3, c.self.invariant.0.places)

pub caller-requires-clause-stored : goal.caller-requires-clause-stored
caller-requires-clause-stored g c =
    let i = c.self.inside in
    let found = c.in_ok-compact.ensures.lookup in
    stored-at (parts_of i.records) c.deref.result.now i.entries.items
    (c.args.place - i.start.at) c.in_ok-compact.field-0.now c.deref.ensures.value found.3.0 found.1
    c.self.invariant.2.stored

pub returns : goal.returns
returns g c =
    let i = c.self.inside in
    let found = c.in_ok-compact.ensures.lookup in
    c.caller.ensures
    ∙ ap caller_in (sym (seen-at c.args.self.now (rows_of_start i.start) i.limit i.room c.args.place
    i.base i.records i.entries.items c.deref.result.now c.in_ok-compact.field-0.now c.self.view_is
    c.self.invariant.3 c.deref.ensures.value found.3.0 found.1))
