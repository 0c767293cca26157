use Rattle.std.proofs.Common.{arith, append_assoc}
use Rattle.itoa.proofs.Decimal.{decimal_pair}
use Rattle.pt_lines.proofs.DigitLemmas.{length_more, pair_left}
use Rattle.pt_lines.proofs.appending.append_below_10000.Goals as goal

pub append_below_100-requires-else-n-lt100-clause-room :
    goal.append_below_100-requires-else-n-lt100-clause-room
append_below_100-requires-else-n-lt100-clause-room g c =
    let room = c.requires.room in
    omega (arith, room, length_more c.args.n c.if-n-lt100.false (omega arith))

pub append_pair-requires-clause-room : goal.append_pair-requires-clause-room
append_pair-requires-clause-room g c =
    let room = c.requires.room in
    let front = c.append_below_100-else-n-lt100.ensures in
    omega (
      arith,
      room,
      front.len,
      front.capacity,
      length_more c.args.n c.if-n-lt100.false (omega arith),
    )

pub returns-else-n-lt100-clause-items : goal.returns-else-n-lt100-clause-items
returns-else-n-lt100-clause-items g c =
    rw (
      c.append_pair.ensures.items,
      c.append_below_100-else-n-lt100.ensures.items,
      append_assoc,
      pair_left c.args.n,
      decimal_pair c.args.n c.if-n-lt100.false (omega arith),
    )

pub returns-else-n-lt100-clause-len : goal.returns-else-n-lt100-clause-len
returns-else-n-lt100-clause-len g c =
    omega (
      arith,
      c.append_pair.ensures.len,
      c.append_below_100-else-n-lt100.ensures.len,
      length_more c.args.n c.if-n-lt100.false (omega arith),
    )
