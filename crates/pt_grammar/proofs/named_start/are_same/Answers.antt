use Rattle.std.proofs.Common.{◌≡◌, ◌==◌, ◌∙◌, Bool, true, false, ap, sym, refl, w32}
use Rattle.std.specs.Bool.{OnTrue}
use Rattle.std.specs.Int.{to_le_bytes}
use Rattle.std.proofs.lemmas.Bool.{eqb-true}
use Rattle.std.proofs.lemmas.Nat.{le_bytes_4}
use Rattle.pt_grammar.proofs.named_start.are_same.Goals as goal

if_true : {P : Type 0} → (b : Bool) → (b ≡ true → P) → OnTrue b P
if_true true f = f refl
if_true false f = tt

pub returns : goal.returns
returns c =
    let one = c.args.one.now in
    let other = c.args.other.now in
    let n = c.from_le_bytes.result in
    let m = c.from_le_bytes-2.result in
    if_true (n == m) (λ same.
    sym (le_bytes_4 one n c.told-one c.fits-one c.from_le_bytes.ensures)
    ∙ ap (to_le_bytes w32) (eqb-true n m same)
    ∙ le_bytes_4 other m c.told-other c.fits-other c.from_le_bytes-2.ensures)
