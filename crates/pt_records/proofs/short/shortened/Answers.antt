use Rattle.std.proofs.Common.{[], refl, sym, arith}
use Rattle.std.proofs.lemmas.List.{append-nil}
use Rattle.pt_records.proofs.Shortened.{shortens-whole}
use Rattle.pt_records.proofs.short.shortened.Goals as goal

pub returns-in-Some : goal.returns-in-Some
returns-in-Some g c = record {
  same = c.in-Some.ensures.same _;
  there = c.in-Some.ensures.there _;
  more = [];
  grown = sym (append-nil _);
  len = omega arith;
  capacity = refl;
}

pub returns-in-None : goal.returns-in-None
returns-in-None g c =
    shortens-whole c.args.base c.args.answer.now c.args.wholes.now c.push_reserved.new.self
    c.len-index.result c.len-index.ensures c.push_reserved.ensures.items c.push_reserved.ensures.len
    c.push_reserved.ensures.capacity
