use Rattle.std.proofs.Common.{refl, sym, ap, ◌∙◌}
use Rattle.pt_state.specs.NewWaitingCalls.{changes_no_object}
use Rattle.pt_state.proofs.WaitingLemmas.{nearly-left, waits-row}
use Rattle.pt_state.proofs.WaitingObjects.{mutex-there, mutex-owned, object_rows-waited}
use Rattle.pt_state.proofs.WaitingObjects.{object_rows-waiting}
use Rattle.pt_state.proofs.state.State.begin.Goals as goal

pub begin_reading-requires-clause-has_room : goal.begin_reading-requires-clause-has_room
begin_reading-requires-clause-has_room g c = c.requires.has_room

pub begin_reading-requires-clause-new_waiting : goal.begin_reading-requires-clause-new_waiting
begin_reading-requires-clause-new_waiting g c = c.requires.new_waiting

pub begin_reading-requires-clause-role : goal.begin_reading-requires-clause-role
begin_reading-requires-clause-role g c = c.in-ForRead.is

pub returns-in-ForRead : goal.returns-in-ForRead
returns-in-ForRead g c =
    let old = c.args.self.now in
    let rest = c.begin_reading.ensures.rest in
    record {
      ok = c.begin_reading.ensures.ok;
      unchanged = c.begin_reading.ensures.unchanged;
      rest = rest ∙ ap (λ rows. record old {
        clients = rows;
        objects = c.begin_reading.new.self.objects;
      }) (sym (ap (λ s. s.clients) rest));
      err = c.begin_reading.ensures.err;
      succeeds_if = λ other. absurd (other c.in-ForRead.is);
    }

pub release-requires-clause-exists : goal.release-requires-clause-exists
release-requires-clause-exists g c =
    let mutex = mutex-there c.args.self.now c.args.c c.args.call.now c.requires.has_room
    c.args.open.now c.requires.new_waiting c.in-ForCond.m c.in-ForCond.is in
    rw mutex.1 refl

pub release-requires-clause-owned : goal.release-requires-clause-owned
release-requires-clause-owned g c =
    λ x at. mutex-owned c.args.self.now c.args.c c.args.call.now c.requires.has_room c.args.open.now
    c.requires.new_waiting c.in-ForCond.m c.in-ForCond.is x at

pub release-requires-clause-client : goal.release-requires-clause-client
release-requires-clause-client g c =
    waits-row c.args.self.now c.args.c c.args.call.now c.requires.has_room

pub release-requires-clause-chained : goal.release-requires-clause-chained
release-requires-clause-chained g c = (c.args.self.now.orphans, c.requires.has_room.read.chained)

pub returns-in-ForCond-clause-ok : goal.returns-in-ForCond-clause-ok
returns-in-ForCond-clause-ok g c =
    let s = c.args.self.now in
    let mutex = mutex-there s c.args.c c.args.call.now c.requires.has_room
    c.args.open.now c.requires.new_waiting c.in-ForCond.m c.in-ForCond.is in
    nearly-left s c.args.c c.args.call.now c.requires.has_room c.args.open.now
    c.requires.new_waiting c.release.new.clients
    (c.release.ensures.rows c.requires.has_room.read.callers.once) c.release.new.objects
    (object_rows-waited s c.args.c c.args.call.now c.requires.has_room c.args.open.now
    c.requires.new_waiting c.release.new.objects c.in-ForCond.m mutex.0 c.in-ForCond.is mutex.1
    (c.release.ensures.mutex mutex.0 mutex.1))
    (c.release.ensures.chained s.orphans c.requires.has_room.read.chained)

pub returns-in-ForMutex-clause-ok : goal.returns-in-ForMutex-clause-ok
returns-in-ForMutex-clause-ok g c =
    let s = c.args.self.now in
    nearly-left s c.args.c c.args.call.now c.requires.has_room c.args.open.now c.requires.new_waiting
    s.clients refl s.objects
    (object_rows-waiting s c.args.c c.args.call.now c.requires.has_room c.args.open.now
    c.requires.new_waiting (ap changes_no_object c.in-ForMutex.is))
    c.requires.has_room.read.chained

pub returns-in-ForWrite-clause-ok : goal.returns-in-ForWrite-clause-ok
returns-in-ForWrite-clause-ok g c =
    let s = c.args.self.now in
    nearly-left s c.args.c c.args.call.now c.requires.has_room c.args.open.now c.requires.new_waiting
    s.clients refl s.objects
    (object_rows-waiting s c.args.c c.args.call.now c.requires.has_room c.args.open.now
    c.requires.new_waiting (ap changes_no_object c.in-ForWrite.is))
    c.requires.has_room.read.chained

pub returns-in-ForBarrier-clause-ok : goal.returns-in-ForBarrier-clause-ok
returns-in-ForBarrier-clause-ok g c =
    let s = c.args.self.now in
    nearly-left s c.args.c c.args.call.now c.requires.has_room c.args.open.now c.requires.new_waiting
    s.clients refl s.objects
    (object_rows-waiting s c.args.c c.args.call.now c.requires.has_room c.args.open.now
    c.requires.new_waiting (ap changes_no_object c.in-ForBarrier.is))
    c.requires.has_room.read.chained
