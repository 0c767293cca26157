use Rattle.std.proofs.Common.{◌<◌, ◌+◌, ◌==◌, List, refl, sym, subst}
use Rattle.std.specs.List.{AllByRecursion as Each}
use Rattle.pt_waitq.specs.declared.waiter.Waiter.{Waiter}
use Rattle.pt_waitq.proofs.CallerLemmas.{latest-after, moved-before}
use Rattle.pt_parts_tests.proofs.tests.wait_lists.insert.Goals as goal

pub insert-requires-clause-latest : goal.insert-requires-clause-latest
insert-requires-clause-latest g c =
    latest-after c.args.waiter _ (c.requires.earlier c.args.object)

pub returns-clause-earlier : goal.returns-clause-earlier
returns-clause-earlier g c = λ q.
    let n = c.args.waiter.moved in
    let earlier = λ (ws : List Waiter). Each (λ v. v.moved < n + 1) ws in
    let before = (g.W.WaitList.seen c.args.list.now).queue q in
    let put =
    moved-before (c.args.object == q) c.args.waiter before n refl (c.requires.earlier q) in
    subst earlier (sym (c.insert.ensures.queues q)) put
