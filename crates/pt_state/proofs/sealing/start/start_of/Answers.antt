use Rattle.std.proofs.Common.{refl, sym, ◌∙◌, arith}
use Rattle.pt_model.specs.StartRows.{start_of_rows}
use Rattle.pt_model.proofs.Histories.{place-history_since}
use Rattle.pt_history.specs.Stored.{stored_history}
use Rattle.pt_state.proofs.OuterPlaces.{outer-places}
use Rattle.pt_state.proofs.SealedStart.{sealed-rows}
use Rattle.pt_state.proofs.sealing.start.start_of.Goals as goal

pub returns-clause-reads : goal.returns-clause-reads
returns-clause-reads g c =
    let s = c.args.state.now in
    let read = c.requires in
    let next = c.len.ensures ∙ sym (place-history_since
    (start_of_rows s.stored.start) s.stored.entries) in
    sealed-rows (stored_history s.stored) read.follows s.clients s.objects s.clocks read.callers
    read.object_rows read.clocks _ next c.outer.ensures refl refl c.in_ok-copy_clients.ensures
    c.in_ok-copy_objects.ensures c.in_ok-copy_readers.ensures c.in_ok-copy_calls.ensures

pub returns-clause-counted : goal.returns-clause-counted
returns-clause-counted g c =
    let s = c.args.state.now in
    let next = c.len.ensures ∙ sym (place-history_since
    (start_of_rows s.stored.start) s.stored.entries) in
    omega (arith, next, c.outer.ensures, outer-places (stored_history s.stored) c.requires.follows)
