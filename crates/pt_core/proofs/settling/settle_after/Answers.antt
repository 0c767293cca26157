use Rattle.std.proofs.Common.{sym, ◌∙◌}
use Rattle.std.proofs.lemmas.Bool.{false≢true}
use Rattle.pt_core.proofs.SettlingLemmas.{settling-itself}
use Rattle.pt_core.proofs.settling.settle_after.Goals as goal

pub returns-else-not-rests-clause-settles : goal.returns-else-not-rests-clause-settles
returns-else-not-rests-clause-settles g c =
    let roomy = c.requires.roomy in
    record {
      settling = settling-itself c.args.body.now.stored roomy.read.follows roomy.room;
      settled = c.requires.rests c.if-not-rests.false;
    }

pub returns-then-not-rests-clause-unchanged : goal.returns-then-not-rests-clause-unchanged
returns-then-not-rests-clause-unchanged g c = λ rests.
    absurd (false≢true (sym c.if-not-rests.true ∙ rests))
