use Rattle.pt_model.specs.declared.waiting_call.Role.TheVariants.{ForWrite}
use Rattle.pt_state.proofs.GrantedCallLemmas.{room, row-there, spare}
use Rattle.pt_state.proofs.GrantedLockLemmas.{write-acquisition, write-looks, write-may, write-stored}
use Rattle.pt_state.proofs.state.State.push_write_and_grant.Goals as goal

pub acquire_write-requires-clause-exists : goal.acquire_write-requires-clause-exists
acquire_write-requires-clause-exists g c =
    write-stored c.args.self.now c.args.c c.args.call.now c.args.r c.requires.has_room
    c.requires.granted.0 c.requires.granted.1

pub acquire_write-requires-clause-free : goal.acquire_write-requires-clause-free
acquire_write-requires-clause-free g c =
    write-may c.args.self.now c.args.c c.args.call.now c.args.r c.requires.has_room
    c.requires.granted.0 c.requires.granted.1

pub note_call_and_grant-requires-clause-exists : goal.note_call_and_grant-requires-clause-exists
note_call_and_grant-requires-clause-exists g c =
    row-there c.args.self.now c.args.c c.args.call.now c.requires.has_room ForWrite c.args.r
    c.requires.granted.0 c.requires.granted.1

pub note_call_and_grant-requires-clause-spare : goal.note_call_and_grant-requires-clause-spare
note_call_and_grant-requires-clause-spare g c =
    let s = c.args.self.now in
    spare s c.args.c c.args.call.now c.requires.has_room ForWrite c.args.r c.requires.granted.0
    c.requires.granted.1 s.objects
    (write-looks s c.args.c c.args.call.now c.args.r c.requires.has_room c.requires.granted.0
    c.requires.granted.1) c.requires.has_room.read.chained

pub note_call_and_grant-requires-clause-room : goal.note_call_and_grant-requires-clause-room
note_call_and_grant-requires-clause-room g c =
    let s = c.args.self.now in
    room s c.args.c c.args.call.now c.requires.has_room ForWrite c.args.r c.requires.granted.0
    c.requires.granted.1 s.objects
    (write-looks s c.args.c c.args.call.now c.args.r c.requires.has_room c.requires.granted.0
    c.requires.granted.1) c.requires.has_room.read.chained

pub returns : goal.returns
returns g c = λ o acquisition.
    write-acquisition c.args.self.now c.args.c c.args.call.now c.args.r c.requires.has_room o acquisition
    c.acquire_write.new.objects c.acquire_write.ensures.lock c.acquire_write.ensures.chains
    c.note_call_and_grant.new.self c.note_call_and_grant.ensures
