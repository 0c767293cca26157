use Rattle.std.proofs.Common.{arith, ap, length, subst}
use Rattle.pt_model.specs.declared.waiting_call.Role.TheVariants.{ForMutex}
use Rattle.pt_state.specs.declared.state.State.{State}
use Rattle.pt_state.specs.Acquisitions.{NotesCallAndGrant}
use Rattle.pt_state.proofs.GrantedCallLemmas.{room, spare, still-there}
use Rattle.pt_state.proofs.GrantedLockLemmas.{mutex-acquisition, mutex-looks, mutex-may, mutex-stored}
use Rattle.pt_state.proofs.WaitingLemmas.{waits-row}
use Rattle.pt_state.proofs.state.State.push_lock_and_grant.Goals as goal

pub take-requires-clause-exists : goal.take-requires-clause-exists
take-requires-clause-exists g c =
    mutex-stored c.args.self.now c.args.c c.args.call.now c.args.m c.requires.has_room
    c.requires.granted.0 c.requires.granted.1

pub take-requires-clause-allowed : goal.take-requires-clause-allowed
take-requires-clause-allowed g c =
    mutex-may c.args.self.now c.args.c c.args.call.now c.args.m c.requires.has_room
    c.requires.granted.0
    c.requires.granted.1 c.acquisition_at-acquisition.result.outcome c.acquisition_at-acquisition.ensures.outcome

pub note_call_and_grant-requires-clause-exists : goal.note_call_and_grant-requires-clause-exists
note_call_and_grant-requires-clause-exists g c =
    still-there c.args.self.now c.args.c c.args.call.now c.requires.has_room ForMutex c.args.m
    c.requires.granted.0 c.requires.granted.1 c.take.new.self.clients
    (c.take.ensures.rows c.requires.has_room.read.callers.once)

pub note_call_and_grant-requires-clause-spare : goal.note_call_and_grant-requires-clause-spare
note_call_and_grant-requires-clause-spare g c =
    let s = c.args.self.now in
    let some = spare s c.args.c c.args.call.now c.requires.has_room ForMutex c.args.m
    c.requires.granted.0 c.requires.granted.1 s.objects
    (mutex-looks s c.args.c c.args.call.now c.args.m c.requires.has_room c.requires.granted.0
    c.requires.granted.1) c.requires.has_room.read.chained in
    omega (
      arith,
      some,
      ap (λ (t : State g.row.A.Denot). length t.answers.items) c.take.ensures.rest,
      ap (λ (t : State g.row.A.Denot). t.answers.capacity) c.take.ensures.rest,
    )

pub note_call_and_grant-requires-clause-room : goal.note_call_and_grant-requires-clause-room
note_call_and_grant-requires-clause-room g c =
    let s = c.args.self.now in
    let some = room s c.args.c c.args.call.now c.requires.has_room ForMutex c.args.m
    c.requires.granted.0 c.requires.granted.1 s.objects
    (mutex-looks s c.args.c c.args.call.now c.args.m c.requires.has_room c.requires.granted.0
    c.requires.granted.1) c.requires.has_room.read.chained in
    omega (arith, some, ap (λ (t : State g.row.A.Denot). t.stored.room) c.take.ensures.rest)

pub returns-clause-adds : goal.returns-clause-adds
returns-clause-adds g c = λ o acquisition.
    let s = c.args.self.now in
    let x = c.acquisition_at-acquisition.result.outcome in
    let end = c.note_call_and_grant.new.self in
    mutex-acquisition s c.args.c c.args.call.now c.args.m c.requires.has_room o acquisition x
    c.acquisition_at-acquisition.ensures.outcome c.take.new.self.objects c.take.ensures.taken
    c.take.ensures.not_acquired
    c.take.new.self.clients (c.take.ensures.rows c.requires.has_room.read.callers.once)
    (c.take.ensures.chained s.orphans c.requires.has_room.read.chained) end
    (subst (λ (t : State g.row.A.Denot). NotesCallAndGrant t c.args.c c.args.call.now x end)
    c.take.ensures.rest c.note_call_and_grant.ensures)

pub take-requires-clause-client : goal.take-requires-clause-client
take-requires-clause-client g c =
    waits-row c.args.self.now c.args.c c.args.call.now c.requires.has_room

pub take-requires-clause-robust : goal.take-requires-clause-robust
take-requires-clause-robust g c = c.acquisition_at-acquisition.ensures.row

pub take-requires-clause-chained : goal.take-requires-clause-chained
take-requires-clause-chained g c = (c.args.self.now.orphans, c.requires.has_room.read.chained)

pub returns-clause-robust : goal.returns-clause-robust
returns-clause-robust g c = c.acquisition_at-acquisition.ensures.robust
