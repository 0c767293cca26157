use Rattle.std.proofs.Common.{refl}
use Rattle.pt_hints.proofs.Ends.{same-ends}
use Rattle.pt_hints.proofs.texts.eights_equal.Goals as goal

pub returns-then-last_eight_equal : goal.returns-then-last_eight_equal
returns-then-last_eight_equal c =
    let first = c.first_eight_equal.ensures in
    λ same. same-ends c.args.one.now c.args.other.now 8 c.requires.same c.requires.all
    (first.len same) (first.equal same) (c.if-last_eight_equal.ensures refl)
