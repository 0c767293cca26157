-- Lists that are equal at both ends.
use Rattle.std.proofs.Common.{ℕ, ◌≡◌, ◌+◌, ◌-◌, ◌*◌, ◌≤◌, List, length, take, drop, sym, ap}
use Rattle.std.proofs.Common.{◌∙◌, arith}
use Rattle.std.proofs.lemmas.List.{take-append-drop, drop-drop}

-- what comes after the first n elements, of the last n
past-first : (xs : List ℕ) (n : ℕ) → length xs ≤ 2 * n → n ≤ length xs
    → drop n xs ≡ drop (n - (length xs - n)) (drop (length xs - n) xs)
past-first xs n all long =
    let e : length xs - n + (n - (length xs - n)) ≡ n = omega (arith, all, long) in
    ap (λ (k : ℕ). drop k xs) (sym e) ∙ sym (drop-drop (n - (length xs - n)) (length xs - n) xs)

-- the first n elements and the last n are all
pub same-ends : (xs ys : List ℕ) (n : ℕ) → length xs ≡ length ys → length ys ≤ 2 * n
    → n ≤ length ys → take n xs ≡ take n ys
    → drop (length xs - n) xs ≡ drop (length ys - n) ys → xs ≡ ys
same-ends xs ys n same all long first last =
    let rest : drop n xs ≡ drop n ys =
    past-first xs n (omega arith) (omega arith)
    ∙ rw (last, same) (sym (past-first ys n all long)) in
    sym (take-append-drop n xs) ∙ rw (first, rest) (take-append-drop n ys)
