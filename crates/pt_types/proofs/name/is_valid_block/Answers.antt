use Rattle.std.proofs.Common.{ℕ, arith, ltb, cond, bit_or, bit_and, take, refl}
use Rattle.std.proofs.lemmas.Simd.{zip2_splat, zip2_splat_left, zip2_of_maps}
use Rattle.std.proofs.lemmas.List.{length-take-le}
use Rattle.pt_types.specs.Names.{is_name_byte}
use Rattle.pt_types.proofs.LaneLemmas.{all_pass}
use Rattle.pt_types.proofs.name.is_valid_block.Goals as goal

abbrev below : ℕ → ℕ → ℕ
below a b = cond (ltb a b) 255 0

pub returns : goal.returns
returns c none =
    let xs = take 16 c.args.text.now in
    let long = length-take-le 16 c.args.text.now c.requires in
    let outside =
    zip2_of_maps bit_or _ _ xs (zip2_splat below xs 16 45 long)
    (zip2_splat_left below 122 16 xs long) in
    let between =
    zip2_of_maps bit_and _ _ xs (zip2_splat_left below 57 16 xs long)
    (zip2_splat below xs 16 97 long) in
    let other = zip2_of_maps bit_and _ _ xs between (zip2_splat {Y = ℕ} _ xs 16 95 long) in
    let stops =
    zip2_of_maps bit_or _ _ xs (zip2_of_maps bit_or _ _ xs outside other)
    (zip2_splat {Y = ℕ} _ xs 16 47 long) in
    all_pass is_name_byte 16 c.args.text.now _ c.requires (omega arith) c.type_inv.text none _
    stops refl
