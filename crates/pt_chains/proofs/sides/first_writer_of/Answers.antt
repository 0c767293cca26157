use Rattle.pt_chains.specs.Chains.{IsFirstWriter}
use Rattle.pt_chains.proofs.RowLemmas.{found-row, no-row}
use Rattle.pt_chains.proofs.sides.first_writer_of.Goals as goal

pub returns-clause-queue : goal.returns-clause-queue
returns-clause-queue g c = λ queue is.
    found-row (λ q. IsFirstWriter q c.first_writer.result) _ _ queue c.in_ok-get.ensures is
    c.first_writer.ensures

pub returns-in_err-get-clause-queue : goal.returns-in_err-get-clause-queue
returns-in_err-get-clause-queue g c = λ queue is. no-row _ queue c.in_err-get.ensures is
