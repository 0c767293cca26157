use Rattle.std.proofs.Common.{◌∙◌, arith}
use Rattle.pt_lines.proofs.AppendLemmas.{append-byte, append-all}
use Rattle.pt_lines.proofs.reply.append.Goals as goal

pub loop-byte-preserved : goal.loop-byte-preserved
loop-byte-preserved g c = record {
  items =
      append-byte c.args.out.now.items c.loop-byte.out.items c.push_reserved.new.self.items
      c.args.bytes.now c.loop-byte.byte-index c.loop-byte-test.true
      c.loop-byte.invariant.items c.push_reserved.ensures.items;
  len = omega arith;
  capacity = c.push_reserved.ensures.capacity ∙ c.loop-byte.invariant.capacity;
}

pub returns : goal.returns
returns g c = record {
  items =
      append-all c.args.out.now.items c.loop-byte.out.items c.args.bytes.now
      c.loop-byte.byte-index c.loop-byte-test.false c.loop-byte.invariant.items;
  len = omega arith;
  capacity = c.loop-byte.invariant.capacity;
}
