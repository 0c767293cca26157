use Rattle.std.proofs.Common.{Some, subst}
use Rattle.pt_chains.specs.Boxes.{lone_queue, IsLone}
use Rattle.pt_chains.proofs.LoneLemmas.{lone-queue, both-lone}
use Rattle.pt_chains.proofs.boxed.put_lone.Goals as goal

pub returns-clause-put : goal.returns-clause-put
returns-clause-put g c =
    let k = c.args.writer in
    let p = c.args.p in
    let n = c.args.count in
    let head = Some c.args.head in
    let tail = c.args.tail in
    both-lone k p n head tail (lone_queue head tail n k p) c.put_chain.new.self
    (lone-queue k p n head tail c.requires.index)
    (subst (λ h. IsLone k p h tail n c.put_chain.new.self) c.to.ensures c.put_chain.ensures)
