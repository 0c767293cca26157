use Rattle.std.specs.Prelude.{◌↔◌, IsTrue}
use Rattle.pt_chains.specs.Chains.{HasWriterFrom}
use Rattle.pt_chains.proofs.RowLemmas.{found-row, no-row}
use Rattle.pt_chains.proofs.sides.has_writer_from.Goals as goal

pub returns-in-Some-clause-queue : goal.returns-in-Some-clause-queue
returns-in-Some-clause-queue g c = λ queue is.
    found-row (λ q. IsTrue c.has_writer_from.result ↔ HasWriterFrom q c.args.p) _ _ queue
    c.in-Some.ensures is c.has_writer_from.ensures

pub returns-in-None-clause-queue : goal.returns-in-None-clause-queue
returns-in-None-clause-queue g c = λ queue is. no-row _ queue c.in-None.ensures is
