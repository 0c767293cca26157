-- Answers after `> `, line after line.
use Rattle.std.proofs.Common.{◌≡◌, ◌≢◌, ◌<◌, ◌+◌, ◌-◌, ◌==◌, ◌∙◌, ◌++◌, ◌∷◌, [], ℕ, zero, suc}
use Rattle.std.proofs.Common.{List, true, false, Some, None, refl, ap, sym, subst, length, take}
use Rattle.std.proofs.Common.{drop, get_or, add-one, append_assoc, length-drop, arith}
use Rattle.std.proofs.lemmas.List.{append-nil, take_rest}
use Rattle.std.proofs.lemmas.Bool.{eq-eqb, eqb-true}
use Rattle.std.specs.Prelude.{codes}
use Rattle.memchr.specs.Find.{IsFirstByte, is_byte}
use Rattle.pt_explain.specs.Explanations.{quoted}

not_newline : (x : ℕ) → x ≢ 10 → (x == 10) ≡ false
not_newline x ne = grind arith

-- up to the first newline bytes stay as they are
copied_to :
    (xs : List ℕ) (i : ℕ) → i < length xs → get_or xs i 0 ≡ 10
    → ((k : ℕ) → k < i → get_or xs k 0 ≢ 10)
    → quoted false xs ≡ take (suc i) xs ++ quoted true (drop (suc i) xs)
copied_to [] i lt here before = absurd (omega arith)
copied_to (x ∷ xs) zero lt here before = ap (λ b. x ∷ quoted b xs) (eq-eqb x 10 here)
copied_to (x ∷ xs) (suc i) lt here before =
    ap (λ b. x ∷ quoted b xs) (not_newline x (before 0 (omega arith)))
    ∙ ap (λ q. x ∷ q) (copied_to xs i (omega arith) here (λ k small. before (suc k) (omega arith)))

-- without a newline all do
copied_all :
    (xs : List ℕ) → ((k : ℕ) → k < length xs → get_or xs k 0 ≢ 10)
    → quoted false xs ≡ take (length xs) xs ++ quoted true (drop (length xs) xs)
copied_all [] none = refl
copied_all (x ∷ xs) none =
    ap (λ b. x ∷ quoted b xs) (not_newline x (none 0 (omega arith)))
    ∙ ap (λ q. x ∷ q) (copied_all xs (λ k small. none (suc k) (omega arith)))

-- a line begins after its mark
marked : (xs : List ℕ) → 0 < length xs → quoted true xs ≡ codes "> " ++ quoted false xs
marked [] some = absurd (omega arith)
marked (x ∷ xs) some = refl

-- the first line ends at the newline that memchr finds
pub first_found :
    (xs : List ℕ) (i : ℕ) → IsFirstByte (is_byte 10) xs (Some i) → 0 < length xs
    → quoted true xs ≡ codes "> " ++ (take (i + 1) xs ++ quoted true (drop (i + 1) xs))
first_found xs i h some =
    marked xs some
    ∙ ap (λ q. codes "> " ++ q)
    (copied_to xs i h.0.high (eqb-true (get_or xs i 0) 10 h.1)
    (λ k lt e. h.0.before k (omega arith) lt (eq-eqb (get_or xs k 0) 10 e))
    ∙ ap (λ n. take n xs ++ quoted true (drop n xs)) (sym (add-one i)))

pub first_alone :
    (xs : List ℕ) → IsFirstByte (is_byte 10) xs None → 0 < length xs
    → quoted true xs
    ≡ codes "> " ++ (take (length xs) xs ++ quoted true (drop (length xs) xs))
first_alone xs h some =
    marked xs some
    ∙ ap (λ q. codes "> " ++ q)
    (copied_all xs (λ k lt e. h k (omega arith) lt (eq-eqb (get_or xs k 0) 10 e)))

-- the next line is appended after its mark
pub quoted_next :
    (rest out marks new text : List ℕ) (n : ℕ)
    → quoted true rest ≡ codes "> " ++ (take n rest ++ quoted true (drop n rest))
    → marks ≡ out ++ codes "> " → new ≡ marks ++ take n rest
    → out ++ quoted true rest ≡ text → new ++ quoted true (drop n rest) ≡ text
quoted_next rest out marks new text n line e1 e2 so =
    ap (λ o. o ++ quoted true (drop n rest)) (e2 ∙ ap (λ o. o ++ take n rest) e1)
    ∙ joined out (codes "> ") (take n rest) (quoted true (drop n rest))
    ∙ ap (λ q. out ++ q) (sym line)
    ∙ so
  where
    joined : (a b c d : List ℕ) → ((a ++ b) ++ c) ++ d ≡ a ++ (b ++ (c ++ d))
    joined a b c d = simp append_assoc

-- after the last line nothing is left
pub quoted_end :
    (rest out text : List ℕ) → true ≡ (length rest == 0) → out ++ quoted true rest ≡ text
    → out ≡ text
quoted_end [] out text none so = sym (append-nil out) ∙ so
quoted_end (x ∷ xs) out text none so =
    absurd (omega (arith, eqb-true (length (x ∷ xs)) 0 (sym none)))

pub is_left : (n : ℕ) → false ≡ (n == 0) → 0 < n
is_left zero e = absurd cc
is_left (suc n) e = omega arith

-- less is left after a line
pub less_left :
    (xs : List ℕ) (n : ℕ) → 0 < n → 0 < length xs
    → length (take (length xs - n) (drop n xs)) < length xs
less_left xs n one some =
    subst (λ r. length r < length xs) (sym (take_rest xs n)) (omega (arith, length-drop n xs))
