use Rattle.pt_model.specs.declared.waiting_call.Role.TheVariants.{ForRead}
use Rattle.pt_records.proofs.ObjectChanges.{whenever-err}
use Rattle.pt_state.proofs.GrantedCallLemmas.{room, row-there, spare}
use Rattle.pt_state.proofs.GrantedLockLemmas.{read-again, read-acquisition, read-linked, read-looks, read-may}
use Rattle.pt_state.proofs.GrantedLockLemmas.{read-stays, read-stored}
use Rattle.pt_state.proofs.state.State.push_read_and_grant.Goals as goal

pub make_row-requires : goal.make_row-requires
make_row-requires g c =
    read-stored c.args.self.now c.args.c c.args.call.now c.args.r c.requires.has_room
    c.requires.granted.0 c.requires.granted.1

pub returns-in_err-make_row-clause-unchanged : goal.returns-in_err-make_row-clause-unchanged
returns-in_err-make_row-clause-unchanged g c =
    whenever-err c.from_residual.result
    (read-stays c.args.self.now c.args.c c.args.call.now c.args.r c.requires.has_room
    c.requires.granted.0 c.requires.granted.1 c.make_row.new.objects c.in_err-make_row.ensures.unchanged
    c.in_err-make_row.ensures.chains)

pub acquire_read-requires-clause-exists : goal.acquire_read-requires-clause-exists
acquire_read-requires-clause-exists g c =
    read-again c.args.self.now c.args.c c.args.call.now c.args.r c.requires.has_room
    c.requires.granted.0 c.requires.granted.1 c.make_row.new.objects c.in_ok-make_row.ensures.ok
    c.in_ok-make_row.ensures.row c.in_ok-make_row.ensures.chains

pub acquire_read-requires-clause-allowed : goal.acquire_read-requires-clause-allowed
acquire_read-requires-clause-allowed g c =
    read-may c.args.self.now c.args.c c.args.call.now c.args.r c.requires.has_room
    c.requires.granted.0 c.requires.granted.1 c.make_row.new.objects c.in_ok-make_row.ensures.ok
    c.in_ok-make_row.ensures.row c.in_ok-make_row.ensures.chains

pub note_call_and_grant-requires-clause-exists : goal.note_call_and_grant-requires-clause-exists
note_call_and_grant-requires-clause-exists g c =
    row-there c.args.self.now c.args.c c.args.call.now c.requires.has_room ForRead c.args.r
    c.requires.granted.0 c.requires.granted.1

pub note_call_and_grant-requires-clause-spare : goal.note_call_and_grant-requires-clause-spare
note_call_and_grant-requires-clause-spare g c =
    let s = c.args.self.now in
    let rowed = c.make_row.new.objects in
    spare s c.args.c c.args.call.now c.requires.has_room ForRead c.args.r c.requires.granted.0
    c.requires.granted.1 rowed
    (read-looks s c.args.c c.args.call.now c.args.r c.requires.has_room c.requires.granted.0
    c.requires.granted.1 rowed c.in_ok-make_row.ensures.ok c.in_ok-make_row.ensures.row
    c.in_ok-make_row.ensures.chains)
    (read-linked s c.args.c c.args.call.now c.args.r c.requires.has_room c.requires.granted.0
    c.requires.granted.1 rowed c.in_ok-make_row.ensures.ok c.in_ok-make_row.ensures.row
    c.in_ok-make_row.ensures.chains)

pub note_call_and_grant-requires-clause-room : goal.note_call_and_grant-requires-clause-room
note_call_and_grant-requires-clause-room g c =
    let s = c.args.self.now in
    let rowed = c.make_row.new.objects in
    room s c.args.c c.args.call.now c.requires.has_room ForRead c.args.r c.requires.granted.0
    c.requires.granted.1 rowed
    (read-looks s c.args.c c.args.call.now c.args.r c.requires.has_room c.requires.granted.0
    c.requires.granted.1 rowed c.in_ok-make_row.ensures.ok c.in_ok-make_row.ensures.row
    c.in_ok-make_row.ensures.chains)
    (read-linked s c.args.c c.args.call.now c.args.r c.requires.has_room c.requires.granted.0
    c.requires.granted.1 rowed c.in_ok-make_row.ensures.ok c.in_ok-make_row.ensures.row
    c.in_ok-make_row.ensures.chains)

pub returns-clause-ok : goal.returns-clause-ok
returns-clause-ok g c = λ o acquisition.
    read-acquisition c.args.self.now c.args.c c.args.call.now c.args.r c.requires.has_room o acquisition
    c.make_row.new.objects c.in_ok-make_row.ensures.ok c.in_ok-make_row.ensures.row
    c.in_ok-make_row.ensures.chains c.acquire_read.new.objects c.acquire_read.ensures.lock
    c.acquire_read.ensures.row c.acquire_read.ensures.chains c.note_call_and_grant.new.self
    c.note_call_and_grant.ensures
