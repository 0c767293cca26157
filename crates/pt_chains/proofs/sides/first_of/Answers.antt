use Rattle.pt_chains.specs.Chains.{IsFirst}
use Rattle.pt_chains.proofs.RowLemmas.{found-row, no-row}
use Rattle.pt_chains.proofs.sides.first_of.Goals as goal

pub returns-clause-queue : goal.returns-clause-queue
returns-clause-queue g c = λ queue is.
    found-row (λ q. IsFirst q c.first.result) _ _ queue c.in_ok-get.ensures is c.first.ensures

pub returns-in_err-get-clause-queue : goal.returns-in_err-get-clause-queue
returns-in_err-get-clause-queue g c = λ queue is. no-row _ queue c.in_err-get.ensures is
