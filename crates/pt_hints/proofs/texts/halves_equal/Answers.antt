use Rattle.std.proofs.Common.{ℕ, ◌≡◌, ◌-◌, List, length, take, drop, sym, ap, ◌∙◌, arith}
use Rattle.std.proofs.Common.{length-drop, length-take}
use Rattle.std.proofs.lemmas.List.{take_all}
use Rattle.pt_hints.proofs.Ends.{same-ends}
use Rattle.pt_hints.proofs.texts.halves_equal.Goals as goal

pub eights_equal-requires-then-eights_equal-clause-same :
    goal.eights_equal-requires-then-eights_equal-clause-same
eights_equal-requires-then-eights_equal-clause-same c =
    omega (
      arith,
      length-take 16 c.args.one.now,
      length-take 16 c.args.other.now,
      c.requires.same,
    )

rest : (xs : List ℕ) (n : ℕ) → take (length xs - n) (drop n xs) ≡ drop n xs
rest xs n = take_all (length xs - n) (drop n xs) (omega (arith, length-drop n xs))

pub returns-then-eights_equal : goal.returns-then-eights_equal
returns-then-eights_equal c =
    let xs = c.args.one.now in
    let ys = c.args.other.now in
    let from = length ys - 16 in
    let last : drop (length xs - 16) xs ≡ drop from ys =
    ap (λ n. drop (n - 16) xs) c.requires.same
    ∙ (sym (rest xs from) ∙ (c.eights_equal.ensures c.if-eights_equal.true ∙ rest ys from)) in
    λ first. same-ends xs ys 16 c.requires.same (omega (arith, c.requires.within)) c.requires.enough
    (c.eights_equal-then-eights_equal.ensures first) last
