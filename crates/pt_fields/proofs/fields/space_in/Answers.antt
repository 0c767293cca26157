use Rattle.std.proofs.Common.{◌∙◌, refl, sym, subst, arith, eqb, w8, w64, Some}
use Rattle.std.proofs.lemmas.Simd.{bitmask_splat}
use Rattle.std.specs.Int.{trailing_zeros}
use Rattle.memchr.specs.Find.{IsFirstByte, is_byte}
use Rattle.pt_fields.proofs.LaneLemmas.{byte_nowhere, byte_first}
use Rattle.pt_fields.proofs.fields.space_in.Goals as goal

pub returns-then-mask-eq0 : goal.returns-then-mask-eq0
returns-then-mask-eq0 c =
    let block = c.args.block.now in
    let is = bitmask_splat w8 eqb block 16 32 c.told-block (omega arith) in
    byte_nowhere 32 block refl (sym is ∙ c.if-mask-eq0.true)

pub returns : goal.returns
returns c =
    let block = c.args.block.now in
    let is = bitmask_splat w8 eqb block 16 32 c.told-block (omega arith) in
    subst (λ m. IsFirstByte (is_byte 32) block (Some (trailing_zeros w64 m))) (sym is)
    (byte_first 32 block refl (omega (arith, c.told-block)) (λ z. c.if-mask-eq0.false (is ∙ z)))
