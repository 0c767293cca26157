-- DigitLemmas: a number's digits, two at a time, and pieces that are appended.
use Rattle.std.proofs.Common.{◌≡◌, ◌<◌, ◌≤◌, ◌+◌, ◌*◌, ◌/◌, ◌%◌, ◌^◌, ◌∙◌, ◌&&◌, ◌⊎◌, ◌==◌, ℕ}
use Rattle.std.proofs.Common.{zero, suc, Bool, true, List, [], ◌∷◌, ◌++◌, length, get_or, refl, ap}
use Rattle.std.proofs.Common.{subst, arith, inl, inr, decimal, append_assoc, length-append, take}
use Rattle.std.proofs.Common.{◌-◌, sym, zero-add}
use Rattle.std.proofs.lemmas.Bool.{cases_lt, eqb-true}
use Rattle.std.proofs.lemmas.Fmt.{decimal_digit, length-decimal-le}
use Rattle.itoa.proofs.Decimal.{decimal_two, decimal_pair}
use Rattle.pt_lines.specs.declared.appending.TheConstants.{PAIRS}
use Rattle.pt_fields.proofs.TestLemmas.{and_parts}

-- the two digits of a number below 100
abbrev pub pair : ℕ → List ℕ
pair n = (48 + n / 10) ∷ (48 + n % 10) ∷ []

abbrev right_below : ℕ → Bool
right_below zero = true
right_below (suc n) =
    (get_or PAIRS (2 * n) 0 == 48 + n / 10 && get_or PAIRS (2 * n + 1) 0 == 48 + n % 10)
    && right_below n

abbrev IsRight : ℕ → Type 0
IsRight n = (get_or PAIRS (2 * n) 0 ≡ 48 + n / 10) × (get_or PAIRS (2 * n + 1) 0 ≡ 48 + n % 10)

right_at : (n k : ℕ) → right_below n ≡ true → k < n → IsRight k
right_at zero k h lt = absurd (omega arith)
right_at (suc n) k h lt =
    let outer =
    and_parts
    (get_or PAIRS (2 * n) 0 == 48 + n / 10 && get_or PAIRS (2 * n + 1) 0 == 48 + n % 10)
    (right_below n) h in
    let inner =
    and_parts (get_or PAIRS (2 * n) 0 == 48 + n / 10)
    (get_or PAIRS (2 * n + 1) 0 == 48 + n % 10) outer.0 in
    let here : IsRight n = (eqb-true _ _ inner.0, eqb-true _ _ inner.1) in
    by (cases_lt k n) here (right_at n k outer.1)
  where
    by : (k < n) ⊎ (n ≤ k) → IsRight n → (k < n → IsRight k) → IsRight k
    by (inl less) here below = below less
    by (inr more) here below =
        let at : n ≡ k = omega arith in
        subst IsRight at here

pub pair_at : (n : ℕ) → n < 100 → IsRight n
pair_at n lt = right_at 100 n refl lt

-- the lengths of decimals
pub length_one : (n : ℕ) → n < 10 → length (decimal n) ≡ 1
length_one n lt = ap length (decimal_digit n lt)

pub length_two : (n : ℕ) → 10 ≤ n → n < 100 → length (decimal n) ≡ 2
length_two n le lt = ap length (decimal_two n le lt)

pub length_more :
    (n : ℕ) → 100 ≤ n → n < 2 ^ 64 → length (decimal n) ≡ length (decimal (n / 100)) + 2
length_more n le fits = ap length (decimal_pair n le fits) ∙ length-append (decimal (n / 100)) _

-- the last four digits
pub decimal_two_pairs :
    (n : ℕ) → 10000 ≤ n → n < 2 ^ 64
    → decimal n ≡ decimal (n / 10000) ++ (pair (n / 100 % 100) ++ pair (n % 100))
decimal_two_pairs n le fits =
    let same : n / 100 / 100 ≡ n / 10000 = omega arith in
    decimal_pair n (omega arith) fits
    ∙ ap (λ ds. ds ++ pair (n % 100)) (decimal_pair (n / 100) (omega arith) (omega arith))
    ∙ ap (λ m. (decimal m ++ pair (n / 100 % 100)) ++ pair (n % 100)) same
    ∙ append_assoc (decimal (n / 10000)) (pair (n / 100 % 100)) (pair (n % 100))

-- a pair of digits, computed by a difference
pub pair_left : (n : ℕ) → n - 100 * (n / 100) ≡ n % 100
pair_left n = omega arith

pub decimal_two_left :
    (n : ℕ) → 10000 ≤ n → n < 2 ^ 64
    → decimal n
    ≡ decimal (n / 10000) ++ (pair (n / 100 - 100 * (n / 10000)) ++ pair (n - 100 * (n / 100)))
decimal_two_left n le fits =
    let hundreds : n / 100 % 100 ≡ n / 100 - 100 * (n / 10000) = omega arith in
    decimal_two_pairs n le fits
    ∙ ap (λ m. decimal (n / 10000) ++ (pair m ++ pair (n % 100))) hundreds
    ∙ ap (λ m. decimal (n / 10000) ++ (pair (n / 100 - 100 * (n / 10000)) ++ pair m))
    (sym (pair_left n))

pub length_four_more :
    (n : ℕ) → 10000 ≤ n → n < 2 ^ 64 → length (decimal n) ≡ length (decimal (n / 10000)) + 4
length_four_more n le fits =
    ap length (decimal_two_pairs n le fits) ∙ length-append (decimal (n / 10000)) _

pub short_number_length : (n : ℕ) → n < 1000000 → length (decimal n) ≤ 6
short_number_length n lt = length-decimal-le 6 n (omega arith) lt (omega arith)

-- three pieces that are appended one after another
pub joined :
    (out o1 o2 o3 a b c : List ℕ) → o1 ≡ out ++ a → o2 ≡ o1 ++ b → o3 ≡ o2 ++ c
    → o3 ≡ out ++ (a ++ (b ++ c))
joined out o1 o2 o3 a b c e1 e2 e3 =
    e3
    ∙ ap (λ xs. xs ++ c) (e2 ∙ ap (λ xs. xs ++ b) e1)
    ∙ append_assoc (out ++ a) b c
    ∙ append_assoc out a (b ++ c)

-- bytes were appended to a text, and it is cut to no less than its old length
pub take-appended :
    (out bytes : List ℕ) (n k : ℕ) → n ≡ length out + k
    → take n (out ++ bytes) ≡ out ++ take k bytes
take-appended [] bytes n k e = ap (λ m. take m bytes) (e ∙ zero-add k)
take-appended (b ∷ out) bytes zero k e = absurd (omega arith)
take-appended (b ∷ out) bytes (suc n) k e =
    ap (λ t. b ∷ t) (take-appended out bytes n k (omega arith))
