use Rattle.std.proofs.Common.{◌<◌, length, None, arith}
use Rattle.pt_chains.proofs.ReadLemmas.{read-set}
use Rattle.pt_chains.proofs.sides.set_chain.Goals as goal

pub returns-clause-counts : goal.returns-clause-counts
returns-clause-counts c i lt =
    let old = c.args.side.now.counts in
    let within : c.args.p < length old = omega arith in
    read-set old c.args.p i c.args.count 0 within

pub returns-clause-heads : goal.returns-clause-heads
returns-clause-heads c i lt =
    let old = c.args.side.now.heads in
    let within : c.args.p < length old = omega arith in
    read-set old c.args.p i c.args.head None within

pub returns-clause-tails : goal.returns-clause-tails
returns-clause-tails c i lt =
    let old = c.args.side.now.tails in
    let within : c.args.p < length old = omega arith in
    read-set old c.args.p i c.args.tail None within
