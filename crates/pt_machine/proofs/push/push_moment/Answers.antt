use Rattle.pt_model.specs.declared.entry.Entry.TheVariants as entry
use Rattle.pt_state.specs.Adds.{history_of}
use Rattle.pt_machine.proofs.QueuedSame.{queued-adds}
use Rattle.pt_machine.proofs.QueuedArrivals.{queued-moment}
use Rattle.pt_machine.proofs.push.push_moment.Goals as goal

pub returns : goal.returns
returns g c = record {
  adds = c.push_moment.ensures;
  queued = queued-adds c.args.state.now c.push_moment.new.self
      (entry.Moment c.args.clock c.args.moment) _ c.push_moment.ensures
      (queued-moment (history_of c.args.state.now) c.args.clock c.args.moment _ c.requires.queued);
}
