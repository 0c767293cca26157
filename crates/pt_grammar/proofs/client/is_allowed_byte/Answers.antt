use Rattle.pt_grammar.proofs.StartLemmas.{may_stand_at}
use Rattle.pt_grammar.proofs.client.is_allowed_byte.Goals as goal

pub returns : goal.returns
returns c = may_stand_at c.args.byte c.ranges.byte.fits
