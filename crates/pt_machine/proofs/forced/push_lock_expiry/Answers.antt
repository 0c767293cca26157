use Rattle.pt_machine.proofs.QueuedForced.{queued-late}
use Rattle.pt_machine.proofs.forced.push_lock_expiry.Goals as goal

pub returns : goal.returns
returns g c = record {
  adds = c.push_expire.ensures;
  queued = queued-late c.args.found.now c.requires.can c.requires.is_open
      c.remove.ensures.admitted c.remove.ensures.is_queue c.remove.ensures.queues
      c.push_expire.ensures c.requires.other;
}
