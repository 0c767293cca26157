use Rattle.pt_parts_tests.proofs.PlayLemmas.{plays-same, plays-other_waiters}
use Rattle.pt_parts_tests.proofs.tests.wait_lists.play.Goals as goal

pub returns-in-Remove : goal.returns-in-Remove
returns-in-Remove g c =
    let old = c.args.list.now in
    let new = c.remove.new.self in
    plays-other_waiters (g.W.WaitList.seen old).queue (g.W.WaitList.seen new).queue
    (g.W.WaitList.seen old).admitted (g.W.WaitList.seen new).admitted
    (g.W.WaitList.seen old).is_queue (g.W.WaitList.seen new).is_queue c.leaving-client.result c.args.place
    c.requires c.remove.ensures.admitted c.remove.ensures.is_queue c.remove.ensures.queues

pub returns-in_ok-admit_again-in-AdmitAgain : goal.returns-in_ok-admit_again-in-AdmitAgain
returns-in_ok-admit_again-in-AdmitAgain g c =
    let old = c.args.list.now in
    let new = c.admit_again.new.list in
    let said = c.in_ok-admit_again-in-AdmitAgain.ensures in
    plays-same (g.W.WaitList.seen old).queue (g.W.WaitList.seen new).queue
    (g.W.WaitList.seen old).admitted (g.W.WaitList.seen new).admitted
    (g.W.WaitList.seen old).is_queue (g.W.WaitList.seen new).is_queue c.args.place
    c.requires said.admitted said.is_queue said.queues

pub returns-in_ok-make_again-in-MakeAgain : goal.returns-in_ok-make_again-in-MakeAgain
returns-in_ok-make_again-in-MakeAgain g c =
    let old = c.args.list.now in
    let new = c.make_again.new.list in
    let said = c.in_ok-make_again-in-MakeAgain.ensures in
    plays-same (g.W.WaitList.seen old).queue (g.W.WaitList.seen new).queue
    (g.W.WaitList.seen old).admitted (g.W.WaitList.seen new).admitted
    (g.W.WaitList.seen old).is_queue (g.W.WaitList.seen new).is_queue c.args.place
    c.requires said.admitted said.is_queue said.queues
