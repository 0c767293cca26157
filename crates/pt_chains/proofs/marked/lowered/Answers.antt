use Rattle.std.proofs.Common.{subst}
use Rattle.pt_chains.specs.Highest.{IsBound}
use Rattle.pt_chains.proofs.HighestLemmas.{lowered-highest}
use Rattle.pt_chains.proofs.marked.lowered.Goals as goal

pub returns-in-Some : goal.returns-in-Some
returns-in-Some c =
    lowered-highest c.args.counts.now c.in-Some.i c.told-counts
    (subst (IsBound c.args.counts.now) c.in-Some.is c.requires) c.if-counts-i-eq0.true
    c.highest.result c.highest.ensures
