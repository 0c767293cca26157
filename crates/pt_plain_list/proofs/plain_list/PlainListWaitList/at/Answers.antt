use Rattle.pt_waitq.specs.Waits.{queue_in}
use Rattle.pt_waitq.proofs.ChangeLemmas.{read-as, found-in, nowhere-in}
use Rattle.pt_plain_list.proofs.plain_list.PlainListWaitList.at.Goals as goal

pub returns-clause-found : goal.returns-clause-found
returns-clause-found g c =
    let same = read-as _ _ _ _ _ c.self.view_is c.self.invariant.0 c.deref.ensures.value in
    found-in c.args.client _ (queue_in c.args.self.now) _ same c.waiter_of.ensures.found

pub returns-clause-nowhere : goal.returns-clause-nowhere
returns-clause-nowhere g c =
    let same = read-as _ _ _ _ _ c.self.view_is c.self.invariant.0 c.deref.ensures.value in
    nowhere-in c.args.client _ (queue_in c.args.self.now) _ same c.waiter_of.ensures.nowhere
