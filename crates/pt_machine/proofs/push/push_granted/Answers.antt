use Rattle.pt_machine.proofs.TimedStates.{own-deadlines, timed-served}
use Rattle.pt_machine.proofs.push.push_granted.Goals as goal

pub drop_deadline-requires : goal.drop_deadline-requires
drop_deadline-requires g c =
    own-deadlines c.args.state.now c.args.timers.now c.requires.can.ready.read c.requires.timed
    c.args.found.now c.requires.is_open

pub returns : goal.returns
returns g c = record {
  pushes = c.push_granted.ensures;
  timed = timed-served c.args.state.now c.push_granted.new.state c.args.timers.now
      c.drop_deadline.new.timers c.requires.can.ready.read c.requires.timed c.args.found.now
      c.requires.is_open c.drop_deadline.ensures c.push_granted.ensures.adds;
}
