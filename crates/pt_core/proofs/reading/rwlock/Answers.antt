use Rattle.std.proofs.Common.{◌∙◌, Some, ap}
use Rattle.std.specs.Prelude.{option_map}
use Rattle.pt_model.specs.Rwlocks.{rwlock_view}
use Rattle.pt_records.proofs.LockViews.{view-kept}
use Rattle.pt_readable.specs.Reading.{reported}
use Rattle.pt_state.specs.Adds.{history_of}
use Rattle.pt_core.proofs.reading.rwlock.Goals as goal

pub returns-in-Some : goal.returns-in-Some
returns-in-Some g c =
    let h = history_of c.args.state.now in
    let seen =
    view-kept h c.requires.follows c.in-Some.field-0-0 c.in-Some.lock.now c.in-Some.ensures.lock
    c.args.c in
    ap Some (c.report.ensures ∙ ap reported seen)
    ∙ ap (λ found. option_map (λ r. reported (rwlock_view h r c.args.c)) found)
    c.in-Some.ensures.number
