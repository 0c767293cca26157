use Rattle.pt_waitq.proofs.ChangeLemmas.{found-only, found-nowhere}
use Rattle.pt_plain_list.proofs.entries.waiter_of.Goals as goal

pub returns-clause-found : goal.returns-clause-found
returns-clause-found c =
    let found = c.entry_of in
    found-only c.args.client c.args.entries.now found.result c.requires found.ensures.found

pub returns-clause-nowhere : goal.returns-clause-nowhere
returns-clause-nowhere c =
    let found = c.entry_of in
    found-nowhere c.args.client c.args.entries.now found.result found.ensures.unlisted
