use Rattle.std.proofs.Common.{sym, ◌∙◌}
use Rattle.pt_types.specs.Operations.{operation}
use Rattle.pt_machine.proofs.NeedsMemory.{left-needs}
use Rattle.pt_machine.proofs.TimedStates.{timed-untimed}
use Rattle.pt_machine.proofs.push.push_waiting_call.Goals as goal

-- a call without a deadline that is a time
pub returns-in-None : goal.returns-in-None
returns-in-None g c =
    record {
      pushes = left-needs (operation c.args.call.now) c.push_waiting.ensures;
      timed = timed-untimed c.args.state.now c.args.timers.now c.args.c c.args.call.now
          c.requires.can.ready c.requires.timed c.push_waiting.new.state c.push_waiting.result
          (sym c.checked_deadline.ensures ∙ c.in-None.is) c.push_waiting.ensures.ok
          c.push_waiting.ensures.err;
    }
