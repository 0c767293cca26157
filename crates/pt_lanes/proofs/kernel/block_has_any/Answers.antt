use Rattle.std.proofs.Common.{◌∙◌, ap, not, nat_eq, arith, w32}
use Rattle.std.proofs.lemmas.Simd.{bitmask_splat}
use Rattle.pt_lanes.specs.Counts.{is_set}
use Rattle.pt_lanes.proofs.BlockLemmas.{any-mask_l}
use Rattle.pt_lanes.proofs.kernel.block_has_any.Goals as goal

pub returns : goal.returns
returns c =
    let block = c.args.block.now in
    let mask = bitmask_splat w32 (λ x y. not (nat_eq x y)) block 8 0 (omega arith) (omega arith) in
    ap (λ m. not (nat_eq m 0)) mask ∙ any-mask_l is_set block
