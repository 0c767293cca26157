use Rattle.std.proofs.Common.{◌∙◌, sym}
use Rattle.pt_machine.proofs.TimedMoves.{own-answered, timed-answered, timed-unmoved}
use Rattle.pt_machine.proofs.push.push_answered.Goals as goal

pub drop_moved-requires : goal.drop_moved-requires
drop_moved-requires g c =
    own-answered c.args.state.now c.push_answered.new.state c.args.timers.now c.args.timers.now
    c.args.c c.args.call.now c.args.answer c.requires.can.ready c.in_ok-push_answered.ensures.ok
    c.requires.timed

-- the deadlines of those that the call moved are dropped
pub returns-then-moves : goal.returns-then-moves
returns-then-moves g c =
    record {
      pushes = c.in_ok-push_answered.ensures;
      timed = timed-answered c.args.state.now c.push_answered.new.state c.args.timers.now
          c.drop_moved.new.timers c.args.c c.args.call.now c.args.answer c.requires.can.ready
          c.in_ok-push_answered.ensures.ok c.len-place.result c.len-place.ensures c.requires.timed
          c.drop_moved.ensures;
    }

-- a call that moves none leaves the deadlines unchanged
pub returns-else-moves : goal.returns-else-moves
returns-else-moves g c =
    record {
      pushes = c.in_ok-push_answered.ensures;
      timed = timed-unmoved c.args.state.now c.push_answered.new.state c.args.timers.now
          c.args.timers.now c.args.c c.args.call.now c.args.answer c.requires.can.ready
          c.in_ok-push_answered.ensures.ok
          (sym c.can_move_waits-moves.ensures ∙ c.if-moves.false) c.requires.timed;
    }
