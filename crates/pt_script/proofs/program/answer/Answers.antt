use Rattle.pt_script.specs.Programs.{stops}
use Rattle.pt_script.proofs.program.answer.Goals as goal

pub returns-in-Err-clause-ends : goal.returns-in-Err-clause-ends
returns-in-Err-clause-ends g c =
    stops c.in-Err.fault c.in-Err.ensures.err c.report.ensures c.status_of.ensures
