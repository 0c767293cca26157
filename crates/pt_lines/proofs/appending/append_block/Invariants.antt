use Rattle.std.proofs.Common.{◌≡◌, ◌+◌, ◌++◌, take}
use Rattle.std.specs.Prelude.{vec_len, vec_capacity}
use Rattle.pt_lines.proofs.appending.append_block.Given as goal

abbrev pub invariant-loop-place : goal.invariant-loop-place
invariant-loop-place g l = record {
  items : l.out.items ≡ l.fn.out.items ++ take l.place l.block;
  len : vec_len l.out ≡ vec_len l.fn.out + l.place;
  capacity : vec_capacity l.out ≡ vec_capacity l.fn.out;
}
