use Rattle.std.proofs.Common.{◌∙◌}
use Rattle.pt_records.proofs.LivingHolders.{held_alive, lock-kept}
use Rattle.pt_state.proofs.state.State.has_living_holder.Goals as goal
use Rattle.pt_history.specs.Stored.{stored_history}

pub returns-in-Some-Rwlock : goal.returns-in-Some-Rwlock
returns-in-Some-Rwlock g c =
    let tables = c.args.self.now in
    let h = stored_history tables.stored in
    let lock = c.in-Some-Rwlock.lock in
    let kept =
    lock-kept h tables.objects c.requires.tables.object_rows c.args.r c.r.inside.0 c.r.view_is
    c.in-Some-Rwlock.field-0.now lock c.in-Some-Rwlock.ensures c.in-Some-Rwlock.field-0-is in
    c.any_holds.ensures
    ∙ held_alive h tables.clients c.args.r lock c.requires.tables.follows c.requires.tables.callers kept
