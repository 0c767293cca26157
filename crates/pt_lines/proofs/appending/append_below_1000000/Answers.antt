use Rattle.std.proofs.Common.{◌∙◌, ◌++◌, ap, sym, arith}
use Rattle.pt_lines.proofs.DigitLemmas.{length_four_more, decimal_two_left, joined}
use Rattle.pt_lines.proofs.appending.append_below_1000000.Goals as goal

pub append_below_100-requires-clause-room : goal.append_below_100-requires-clause-room
append_below_100-requires-clause-room g c =
    let room = c.requires.room in
    omega (arith, room, length_four_more c.args.n c.requires.above (omega arith))

pub append_pair-requires-clause-room : goal.append_pair-requires-clause-room
append_pair-requires-clause-room g c =
    let room = c.requires.room in
    let front = c.append_below_100.ensures in
    omega (
      arith,
      room,
      front.len,
      front.capacity,
      length_four_more c.args.n c.requires.above (omega arith),
    )

pub append_pair-requires-2-clause-room : goal.append_pair-requires-2-clause-room
append_pair-requires-2-clause-room g c =
    let room = c.requires.room in
    let front = c.append_below_100.ensures in
    let next = c.append_pair.ensures in
    omega (
      arith,
      room,
      front.len,
      front.capacity,
      next.len,
      next.capacity,
      length_four_more c.args.n c.requires.above (omega arith),
    )

pub returns-clause-items : goal.returns-clause-items
returns-clause-items g c =
    let out = c.args.out.now.items in
    joined out _ _ _ _ _ _ c.append_below_100.ensures.items c.append_pair.ensures.items
    c.append_pair-2.ensures.items
    ∙ ap (λ ds. out ++ ds) (sym (decimal_two_left c.args.n c.requires.above (omega arith)))

pub returns-clause-len : goal.returns-clause-len
returns-clause-len g c =
    omega (
      arith,
      c.append_pair-2.ensures.len,
      c.append_pair.ensures.len,
      c.append_below_100.ensures.len,
      length_four_more c.args.n c.requires.above (omega arith),
    )
