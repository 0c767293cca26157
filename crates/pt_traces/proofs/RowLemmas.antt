-- RowLemmas: the first row of a text, and what is left of a text.
use Rattle.std.proofs.Common.{◌≡◌, ◌≢◌, ◌<◌, ◌≤◌, ◌+◌, ◌-◌, ◌∙◌, ◌==◌, ℕ, zero, suc, Bool, true}
use Rattle.std.proofs.Common.{false, cond, List, [], ◌∷◌, ◌++◌, length, take, drop, get_or}
use Rattle.std.proofs.Common.{refl, ap, sym, arith, None, Some, add-one}
use Rattle.std.proofs.lemmas.Bool.{eq-eqb, eqb-true}
use Rattle.std.proofs.lemmas.Grind.{common_steps}
use Rattle.memchr.specs.Find.{IsFirstByte, is_byte}
use Rattle.pt_fields.specs.Fields.{push_first}
use Rattle.pt_traces.specs.Rows.{rows}

pub to_end : (n : ℕ) (xs : List ℕ) → take (length xs - n) (drop n xs) ≡ drop n xs
to_end n xs = grind (arith, common_steps)

pub none_left : (xs : List ℕ) → take (length xs - length xs) (drop (length xs) xs) ≡ []
none_left xs = grind (arith, common_steps)

not_newline : (x : ℕ) → x ≢ 10 → (x == 10) ≡ false
not_newline x ne = grind arith

-- a byte other than a newline goes into the first row
rows-other : (x : ℕ) (xs : List ℕ) → (x == 10) ≡ false → rows (x ∷ xs) ≡ push_first x (rows xs)
rows-other x xs ne = ap (λ b. cond b ([] ∷ rows xs) (push_first x (rows xs))) ne

-- the first row ends at the first newline
rows-at :
    (xs : List ℕ) (i : ℕ) → i < length xs → get_or xs i 0 ≡ 10
    → ((k : ℕ) → k < i → get_or xs k 0 ≢ 10)
    → rows xs ≡ take i xs ∷ rows (drop (i + 1) xs)
rows-at [] i lt here before = absurd (omega arith)
rows-at (x ∷ xs) zero lt here before =
    ap (λ b. cond b ([] ∷ rows xs) (push_first x (rows xs))) (eq-eqb x 10 here)
rows-at (x ∷ xs) (suc i) lt here before =
    let rest = rows-at xs i (omega arith) here (λ k small. before (suc k) (omega arith)) in
    let same =
    ap (λ n. drop n xs) (add-one i) ∙ sym (ap (λ n. drop n (x ∷ xs)) (add-one (suc i))) in
    rows-other x xs (not_newline x (before 0 (omega arith)))
    ∙ ap (push_first x) rest
    ∙ ap (λ ys. (x ∷ take i xs) ∷ rows ys) same

-- a text with no newline is its only row, unless it is empty
rows-one :
    (x : ℕ) (xs : List ℕ) → ((k : ℕ) → k < length (x ∷ xs) → get_or (x ∷ xs) k 0 ≢ 10)
    → rows (x ∷ xs) ≡ (x ∷ xs) ∷ []
rows-one x [] none = rows-other x [] (not_newline x (none 0 (omega arith)))
rows-one x (y ∷ xs) none =
    rows-other x (y ∷ xs) (not_newline x (none 0 (omega arith)))
    ∙ ap (push_first x) (rows-one y xs (λ k small. none (suc k) (omega arith)))

-- the first row ends at the newline that memchr finds
pub rows-found :
    (xs : List ℕ) (i : ℕ) → IsFirstByte (is_byte 10) xs (Some i)
    → rows xs ≡ take i xs ∷ rows (drop (i + 1) xs)
rows-found xs i h =
    rows-at xs i h.0.high (eqb-true (get_or xs i 0) 10 h.1)
    (λ k lt e. h.0.before k (omega arith) lt (eq-eqb (get_or xs k 0) 10 e))

pub rows-none :
    (xs : List ℕ) → 0 < length xs → IsFirstByte (is_byte 10) xs None → rows xs ≡ xs ∷ []
rows-none [] some h = absurd (omega arith)
rows-none (x ∷ xs) some h =
    rows-one x xs (λ k lt e. h k (omega arith) lt (eq-eqb (get_or (x ∷ xs) k 0) 10 e))

-- a text has no more rows than bytes
pub rows-few : (xs : List ℕ) → length (rows xs) ≤ length xs
rows-few [] = omega arith
rows-few (x ∷ xs) = by (x == 10) (rows xs) (rows-few xs)
  where
    pushed : (rs : List (List ℕ)) → length rs ≤ length xs
        → length (push_first x rs) ≤ suc (length xs)
    pushed [] few = omega arith
    pushed (r ∷ rs) few = omega (arith, few)

    by : (b : Bool) (rs : List (List ℕ)) → length rs ≤ length xs
        → length (cond b ([] ∷ rs) (push_first x rs)) ≤ suc (length xs)
    by true rs few = omega (arith, few)
    by false rs few = pushed rs few
