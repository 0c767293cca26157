use Rattle.pt_machine.proofs.QueuedForced.{queued-granted}
use Rattle.pt_machine.proofs.forced.push_granted.Goals as goal

pub returns : goal.returns
returns g c = record {
  adds = c.push_granted.ensures;
  queued = queued-granted c.args.found.now c.requires.can c.requires.is_open
      c.remove.ensures.admitted c.remove.ensures.is_queue c.remove.ensures.queues
      c.push_granted.ensures c.requires.other;
}
