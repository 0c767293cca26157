use Rattle.std.proofs.Common.{append_assoc}
use Rattle.pt_lines.proofs.DigitLemmas.{pair_at}
use Rattle.pt_lines.proofs.appending.append_pair.Goals as goal

pub returns-clause-items : goal.returns-clause-items
returns-clause-items g c =
    let two = pair_at c.args.n c.requires.within in
    rw (c.push_reserved-2.ensures.items, c.push_reserved.ensures.items, append_assoc, two.0, two.1)
