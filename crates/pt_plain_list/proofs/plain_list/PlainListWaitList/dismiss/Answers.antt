use Rattle.std.proofs.Common.{ap, ◌∙◌}
use Rattle.pt_waitq.specs.Waits.{has_waiter}
use Rattle.pt_waitq.proofs.ChangeLemmas.{none-stands}
use Rattle.pt_plain_list.proofs.plain_list.PlainListWaitList.dismiss.Goals as goal

pub remove_client-requires : goal.remove_client-requires
remove_client-requires g c =
    let stand = c.self.invariant.0 in
    let none = none-stands _ _ _ _ c.args.client c.self.view_is stand c.requires.nowhere in
    ap (has_waiter c.args.client) c.deref.ensures.value ∙ none
