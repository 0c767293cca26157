use Rattle.std.proofs.Common.{◌≡◌, arith}
use Rattle.std.proofs.lemmas.Bool.Decides.{nat_tests}
use Rattle.pt_waitq.specs.ListLemmas.{item-in}
use Rattle.pt_plain_list.proofs.entries.entry_of.Goals as goal

pub returns-then-eq-clause-found : goal.returns-then-eq-clause-found
returns-then-eq-clause-found c =
    let read = c.index-entries-i in
    let own : read.result.1.client ≡ c.args.client =
    grind (arith, nat_tests, c.eq.ensures, c.if-eq.true) in
    (item-in c.args.entries.now c.loop-i.i read.result (omega arith) read.is, own)
