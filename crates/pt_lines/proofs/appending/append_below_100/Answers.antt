use Rattle.std.proofs.Common.{arith}
use Rattle.std.proofs.lemmas.Fmt.{decimal_digit}
use Rattle.itoa.proofs.Decimal.{decimal_two}
use Rattle.pt_lines.proofs.DigitLemmas.{length_one, length_two}
use Rattle.pt_lines.proofs.appending.append_below_100.Goals as goal

pub push_reserved-requires : goal.push_reserved-requires
push_reserved-requires g c =
    let room = c.requires.room in
    omega (arith, room, length_one c.args.n c.if-n-lt10.true)

pub append_pair-requires-clause-room : goal.append_pair-requires-clause-room
append_pair-requires-clause-room g c =
    let room = c.requires.room in
    omega (arith, room, length_two c.args.n c.if-n-lt10.false c.requires.within)

pub returns-then-n-lt10-clause-items : goal.returns-then-n-lt10-clause-items
returns-then-n-lt10-clause-items g c =
    rw (c.push_reserved.ensures.items, decimal_digit c.args.n c.if-n-lt10.true)

pub returns-then-n-lt10-clause-len : goal.returns-then-n-lt10-clause-len
returns-then-n-lt10-clause-len g c =
    omega (arith, c.push_reserved.ensures.len, length_one c.args.n c.if-n-lt10.true)

pub returns-else-n-lt10-clause-items : goal.returns-else-n-lt10-clause-items
returns-else-n-lt10-clause-items g c =
    rw (c.append_pair.ensures.items, decimal_two c.args.n c.if-n-lt10.false c.requires.within)

pub returns-else-n-lt10-clause-len : goal.returns-else-n-lt10-clause-len
returns-else-n-lt10-clause-len g c =
    omega (
      arith,
      c.append_pair.ensures.len,
      length_two c.args.n c.if-n-lt10.false c.requires.within,
    )
