use Rattle.pt_serve.proofs.Begun.{begun_same}
use Rattle.pt_serve.proofs.output.say.Goals as goal

pub returns-in-Ok-clause-begun : goal.returns-in-Ok-clause-begun
returns-in-Ok-clause-begun g c = search begun_same

pub returns-in-Err-clause-begun : goal.returns-in-Err-clause-begun
returns-in-Err-clause-begun g c = search begun_same
