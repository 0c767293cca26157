use Rattle.pt_script.specs.Programs.{stops}
use Rattle.pt_explain.proofs.program.explain.Goals as goal

pub returns-clause-ends : goal.returns-clause-ends
returns-clause-ends g c =
    stops c.in-Err.fault c.in-Err.ensures.err c.report.ensures c.status_of.ensures
