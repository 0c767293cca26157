use Rattle.std.proofs.Common.{◌∙◌, arith}
use Rattle.pt_lines.proofs.AppendLemmas.{append-byte, append-all}
use Rattle.pt_lines.proofs.appending.append_block.Goals as goal

pub loop-place-preserved : goal.loop-place-preserved
loop-place-preserved g c = record {
  items =
      append-byte c.args.out.now.items c.loop-place.out.items c.push_reserved.new.self.items
      c.args.block c.loop-place.place (omega arith) c.loop-place.invariant.items
      c.push_reserved.ensures.items;
  len = omega arith;
  capacity = c.push_reserved.ensures.capacity ∙ c.loop-place.invariant.capacity;
}

pub returns-clause-items : goal.returns-clause-items
returns-clause-items g c =
    append-all c.args.out.now.items c.loop-place.out.items c.args.block c.loop-place.place
    (omega arith) c.loop-place.invariant.items
