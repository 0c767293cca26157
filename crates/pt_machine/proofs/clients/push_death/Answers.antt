use Rattle.std.proofs.Common.{◌==◌, ◌&&◌, not, ap, ◌∙◌}
use Rattle.pt_waitq.specs.Queues.{is_queued_in}
use Rattle.pt_waitq.proofs.CallerLemmas.{other_waiters-stands}
use Rattle.pt_model.specs.declared.entry.Entry.TheVariants as entry
use Rattle.pt_state.specs.Adds.{history_of}
use Rattle.pt_machine.proofs.QueuedSame.{queued-adds}
use Rattle.pt_machine.proofs.QueuedArrivals.{queued-death}
use Rattle.pt_machine.proofs.clients.push_death.Goals as goal

pub dismiss-requires-clause-nowhere : goal.dismiss-requires-clause-nowhere
dismiss-requires-clause-nowhere g c = λ q.
    ap (is_queued_in c.args.c) (c.remove.ensures.queues q) ∙ other_waiters-stands c.args.c _

pub returns : goal.returns
returns g c = record {
  adds = c.push_death.ensures;
  queued = let s = c.args.state.now in
      queued-adds s c.push_death.new.self (entry.Death c.args.c) _ c.push_death.ensures
      (queued-death (history_of s) c.args.c _ _
      (λ q. c.dismiss.ensures.queues q ∙ c.remove.ensures.queues q)
      (λ d. c.dismiss.ensures.admitted d
      ∙ ap (λ b. not (c.args.c == d) && b) (c.remove.ensures.admitted d))
      (λ o. c.dismiss.ensures.is_queue o ∙ c.remove.ensures.is_queue o) c.requires.queued);
}
