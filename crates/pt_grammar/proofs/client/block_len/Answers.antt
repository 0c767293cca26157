use Rattle.std.proofs.Common.{ℕ, ◌≤◌, leb, cond, bit_and, take, refl, sym, arith}
use Rattle.std.proofs.lemmas.Bool.{cond-false, cond-true, eq-eqb, ne_eqb}
use Rattle.std.proofs.lemmas.List.{length-take-le}
use Rattle.std.proofs.lemmas.Simd.{splat_is_map, zip2_of_maps, zip2_splat}
use Rattle.pt_grammar.specs.ClientNames.{is_client_byte}
use Rattle.pt_fields.proofs.LaneLemmas.{front_passes}
use Rattle.pt_grammar.proofs.client.block_len.Goals as goal

abbrev at_least : ℕ → ℕ → ℕ
at_least a b = cond (leb a b) 255 0

few : 8 ≤ 64
few = omega arith

pub returns-then-mask-eq0-clause-valid : goal.returns-then-mask-eq0-clause-valid
returns-then-mask-eq0-clause-valid c =
    let xs = take 8 c.args.text.now in
    let long = length-take-le 8 c.args.text.now c.requires in
    let digits =
    zip2_of_maps at_least _ _ xs (splat_is_map xs 8 10 long) (zip2_splat {Y = ℕ} _ xs 8 48 long) in
    let letters =
    zip2_of_maps at_least _ _ xs (splat_is_map xs 8 26 long)
    (zip2_of_maps _ _ _ xs (zip2_splat {Y = ℕ} _ xs 8 32 long) (splat_is_map xs 8 97 long)) in
    (front_passes is_client_byte c.args.text.now _ 8 _ c.requires few c.type_inv.text
    (sym (cond-true _ _ _ (eq-eqb _ _ c.if-mask-eq0.true)))
    _ (zip2_of_maps bit_and _ _ xs digits letters) refl).1

pub returns-clause-within : goal.returns-clause-within
returns-clause-within c =
    let xs = take 8 c.args.text.now in
    let long = length-take-le 8 c.args.text.now c.requires in
    let digits =
    zip2_of_maps at_least _ _ xs (splat_is_map xs 8 10 long) (zip2_splat {Y = ℕ} _ xs 8 48 long) in
    let letters =
    zip2_of_maps at_least _ _ xs (splat_is_map xs 8 26 long)
    (zip2_of_maps _ _ _ xs (zip2_splat {Y = ℕ} _ xs 8 32 long) (splat_is_map xs 8 97 long)) in
    (front_passes is_client_byte c.args.text.now _ 8 _ c.requires few c.type_inv.text
    (sym (cond-false _ _ _ (ne_eqb _ _ c.if-mask-eq0.false)))
    _ (zip2_of_maps bit_and _ _ xs digits letters) refl).0

pub returns-clause-valid : goal.returns-clause-valid
returns-clause-valid c =
    let xs = take 8 c.args.text.now in
    let long = length-take-le 8 c.args.text.now c.requires in
    let digits =
    zip2_of_maps at_least _ _ xs (splat_is_map xs 8 10 long) (zip2_splat {Y = ℕ} _ xs 8 48 long) in
    let letters =
    zip2_of_maps at_least _ _ xs (splat_is_map xs 8 26 long)
    (zip2_of_maps _ _ _ xs (zip2_splat {Y = ℕ} _ xs 8 32 long) (splat_is_map xs 8 97 long)) in
    (front_passes is_client_byte c.args.text.now _ 8 _ c.requires few c.type_inv.text
    (sym (cond-false _ _ _ (ne_eqb _ _ c.if-mask-eq0.false)))
    _ (zip2_of_maps bit_and _ _ xs digits letters) refl).1
