use Rattle.pt_state.proofs.Handing.{adds-service, ready-grant}
use Rattle.pt_state.proofs.state.State.push_granted.Goals as goal

pub push_grant_read-requires-clause-has_room : goal.push_grant_read-requires-clause-has_room
push_grant_read-requires-clause-has_room g c =
    ready-grant c.args.self.now c.args.found.now c.requires.other c.requires.has_room

pub push_grant_read-requires-clause-is_open : goal.push_grant_read-requires-clause-is_open
push_grant_read-requires-clause-is_open g c = c.requires.is_open

pub push_grant_read-requires-clause-role : goal.push_grant_read-requires-clause-role
push_grant_read-requires-clause-role g c = c.in-ForRead.is

pub push_grant_write-requires-clause-has_room : goal.push_grant_write-requires-clause-has_room
push_grant_write-requires-clause-has_room g c =
    ready-grant c.args.self.now c.args.found.now c.requires.other c.requires.has_room

pub push_grant_write-requires-clause-is_open : goal.push_grant_write-requires-clause-is_open
push_grant_write-requires-clause-is_open g c = c.requires.is_open

pub push_grant_write-requires-clause-role : goal.push_grant_write-requires-clause-role
push_grant_write-requires-clause-role g c = c.in-ForWrite.is

pub returns-in-ForRead : goal.returns-in-ForRead
returns-in-ForRead g c =
    adds-service c.args.self.now c.args.found.now c.requires.other
    c.push_grant_read.new.self c.push_grant_read.ensures

pub returns-in-ForWrite : goal.returns-in-ForWrite
returns-in-ForWrite g c =
    adds-service c.args.self.now c.args.found.now c.requires.other
    c.push_grant_write.new.self c.push_grant_write.ensures
