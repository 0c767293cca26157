use Rattle.pt_machine.proofs.CandidateRows.{plain-stands}
use Rattle.pt_machine.proofs.machine.Machine.is_read_blocked.Goals as goal

pub returns-in-Plain : goal.returns-in-Plain
returns-in-Plain g c = λ v. plain-stands v c.args.how.now _ c.in-Plain.is
