-- The front of the bytes that a cutter holds, and the bytes that remain after it.
use Rattle.std.proofs.Common.{◌≡◌, ℕ, ◌+◌, ◌<◌, ◌≤◌, ◌==◌, Bool, true, false, cond, List, []}
use Rattle.std.proofs.Common.{◌∷◌, ◌++◌, length, take, drop, min, refl}
use Rattle.std.proofs.Common.{ap, sym, ◌∙◌, arith, length-drop}
use Rattle.std.proofs.lemmas.Bool.{eqb-true}
use Rattle.std.proofs.lemmas.List.{length-take-le, take_all}
use Rattle.pt_grammar.specs.Lines.{CutterView, lines, lines_after_newline, lines_to_come}

-- the length of a piece at the start of bytes
pub front_of : (n : ℕ) (xs ys : List ℕ) → xs ≡ ys → n ≤ length ys → n ≡ length (take n xs)
front_of n xs ys same within =
    sym (ap (λ zs. length (take n zs)) same ∙ length-take-le n ys within)

pub front_within : (n count : ℕ) (xs ys : List ℕ) → xs ≡ ys → count ≡ length ys
    → n ≤ count → n ≡ length (take n xs)
front_within n count xs ys same is within =
    front_of n xs ys same (omega (arith, is, within))

pub least_within : (n count most : ℕ) → n ≡ min count most → n ≤ count
least_within n count most is = omega (arith, is)

-- fewer bytes remain after a line
pub left_less : (n : ℕ) (xs ys : List ℕ) → ys ≡ drop (n + 1) xs → n < length xs
    → length ys < length xs
left_less n xs ys is within = omega (arith, ap length is, length-drop (n + 1) xs)

pub left_no_more : (n : ℕ) (xs ys : List ℕ) → ys ≡ drop n xs → length ys ≤ length xs
left_no_more n xs ys is = omega (arith, ap length is, length-drop n xs)

pub one_more : (n m : ℕ) → n < m → n + 1 ≤ m
one_more n m less = omega arith

pub front_before : (n : ℕ) (xs ys : List ℕ) → xs ≡ ys → n < length ys → n ≡ length (take n xs)
front_before n xs ys same within = front_of n xs ys same (omega arith)

-- a line that ends within the first 129 bytes is short
pub short_front : (n count long : ℕ) (xs ys : List ℕ) → xs ≡ ys → n < length ys → n < count
    → count ≡ min long 129 → length (take n xs) ≤ 128
short_front n count long xs ys same within low is =
    let front = front_before n xs ys same within in omega (arith, low, is, front)

-- if at most 128 bytes were looked at, those are all
pub few_held : (count long : ℕ) (xs : List ℕ) → count ≡ min long 129 → long ≡ length xs
    → count ≤ 128 → (length xs ≤ 128) × (take count xs ≡ xs)
few_held count long xs is all few =
    (omega (arith, is, all, few), take_all count xs (omega (arith, is, all, few)))

pub left_none : (xs ys : List ℕ) → ys ≡ [] → length ys ≤ length xs
left_none xs ys is = let none = ap length is in omega (arith, none)

-- if nothing is held, no line is to come
pub nothing_held : (xs : List ℕ) (held : CutterView) → true ≡ (length xs == 0) → xs ≡ held.rest
    → lines_to_come held [] ≡ []
nothing_held (x ∷ xs) held empty same =
    let none : length (x ∷ xs) ≡ 0 = eqb-true (length (x ∷ xs)) 0 (sym empty) in
    absurd (omega (arith, none))
nothing_held [] held empty same =
    ap (λ rest. cond held.dropping (lines_after_newline (rest ++ [])) (lines (rest ++ [])))
    (sym same)
    ∙ by held.dropping
  where
    by : (b : Bool) → cond b (lines_after_newline []) (lines []) ≡ []
    by true = refl
    by false = refl
