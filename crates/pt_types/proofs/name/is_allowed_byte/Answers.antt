use Rattle.pt_types.proofs.NameLemmas.{may_stand_at}
use Rattle.pt_types.proofs.name.is_allowed_byte.Goals as goal

pub returns : goal.returns
returns c = may_stand_at c.args.byte c.ranges.byte.fits
