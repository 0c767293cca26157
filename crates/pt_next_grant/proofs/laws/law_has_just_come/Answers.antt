use Rattle.pt_next_grant.proofs.JustCome.{has_just_come}
use Rattle.pt_next_grant.proofs.laws.law_has_just_come.Goals as goal

pub returns : goal.returns
returns c = has_just_come
