-- NumberLemmas: numbers and their decimals.
use Rattle.std.proofs.Common.{◌≡◌, ◌<◌, ◌≤◌, ◌+◌, ◌-◌, ◌*◌, ◌^◌, ◌∙◌, ◌==◌, ◌&&◌, ◌||◌, not, ℕ}
use Rattle.std.proofs.Common.{zero, suc, Bool, true, false, cond, List, [], ◌∷◌, length, take}
use Rattle.std.proofs.Common.{get_or, nat_le, add-one, refl, ap, sym, arith, rules, None, Some}
use Rattle.std.proofs.Common.{decimal, subst, ◌⊎◌, inl, inr, ◌≢◌}
use Rattle.std.proofs.lemmas.Bool.{eqb-true, false≢true}
use Rattle.std.proofs.lemmas.List.{take_all}
use Rattle.std.specs.List.{list_all}
use Rattle.std.specs.Char.{digit_value}
use Rattle.std.specs.Str.Parse.{digits_value}
use Rattle.std.proofs.lemmas.Grind.{common_steps}
use Rattle.std.proofs.lemmas.Str.Parse.{IsNumeralModel, numerals_by_value, digits_value_short}
use Rattle.std.proofs.lemmas.Str.{digit_value_digit}
use Rattle.std.proofs.lemmas.Int.Digits.{digits_value_more}
use Rattle.std.proofs.lemmas.Fmt.{digits_decimal, digits_value-decimal, decimal-digits_value}
use Rattle.std.proofs.lemmas.Fmt.{decimal_nonempty, length-decimal-le, first_decimal, decimal_digit}
use Rattle.pt_fields.specs.Numbers.{IsNumber, is_digit, is_decimal, read_number}
use Rattle.pt_fields.proofs.FieldLemmas.{is_no_space, is_word}
use Rattle.pt_fields.proofs.TestLemmas.{some_inj, and_parts, and_true}

own : IsNumeralModel (λ ds. list_all is_digit ds ≡ true) (digits_value 10)
own = numerals_by_value _ (search rules)

-- the value of the digits before the last of up to ten is small
pub value_small :
    (ds : List ℕ) (i : ℕ) → list_all is_digit (take i ds) ≡ true → length ds ≤ 10
    → i < length ds → digits_value 10 (take i ds) < 10 ^ 9
value_small ds i h short lt =
    digits_value_short own (take i ds) 9 h (grind (arith, common_steps))

-- the bounds of a digit
pub digit_byte : (d : ℕ) → is_digit d ≡ true → (48 ≤ d) × (d ≤ 57)
digit_byte d h =
    let parts = and_parts (nat_le 48 d) (nat_le d 57) h in
    let low : nat_le 48 d ≡ true = parts.0 in
    let high : nat_le d 57 ≡ true = parts.1 in
    (grind arith, grind arith)

digit_is : (c : ℕ) → 48 ≤ c → c ≤ 57 → digit_value c ≡ c - 48
digit_is c low high = omega (arith, digit_value_digit c (omega arith, omega arith))

-- one more digit
pub digits_more :
    (ds : List ℕ) (i : ℕ) → i < length ds → list_all is_digit (take i ds) ≡ true
    → is_digit (get_or ds i 0) ≡ true → list_all is_digit (take (i + 1) ds) ≡ true
digits_more [] i lt h d = absurd (omega arith)
digits_more (x ∷ xs) zero lt h d = and_true (is_digit x) true d refl
digits_more (x ∷ xs) (suc i) lt h d =
    let parts = and_parts (is_digit x) (list_all is_digit (take i xs)) h in
    ap (λ n. list_all is_digit (take n (x ∷ xs))) (add-one (suc i))
    ∙ and_true (is_digit x) (list_all is_digit (take (suc i) xs)) parts.0
    (ap (λ n. list_all is_digit (take n xs)) (sym (add-one i))
    ∙ digits_more xs i (omega arith) parts.1 d)

pub value_more :
    (ds : List ℕ) (i n : ℕ) → is_digit (get_or ds i 0) ≡ true → i < length ds
    → n ≡ digits_value 10 (take i ds)
    → 10 * n + (get_or ds i 0 - 48) ≡ digits_value 10 (take (i + 1) ds)
value_more ds i n h lt e =
    let d = digit_byte (get_or ds i 0) h in
    let v = digit_is (get_or ds i 0) d.0 d.1 in
    omega (arith, digits_value_more 10 ds i lt, v, e)

pub value_bound :
    (ds : List ℕ) (n i : ℕ) → list_all is_digit (take i ds) ≡ true → length ds ≤ 10
    → n ≡ digits_value 10 (take i ds) → IsNumber n
value_bound ds n i h short e =
    let small = digits_value_short own (take i ds) 10 h (grind (arith, common_steps)) in
    subst (λ m. m < 10 ^ 10) (sym e) small

or_parts : (a : Bool) (n : ℕ) → (a || not (n == 48)) ≡ true → n ≡ 48 → a ≡ true
or_parts true n h e = refl
or_parts false n h e = grind arith

no_leading_zero :
    (n : ℕ) → n < 2 ^ 64
    → (length (decimal n) == 1 || not (get_or (decimal n) 0 0 == 48)) ≡ true
no_leading_zero zero h =
    ap (λ ds. length ds == 1 || not (get_or ds 0 0 == 48)) (decimal_digit 0 (omega arith))
no_leading_zero (suc n) h =
    let first : 48 < get_or (decimal (suc n)) 0 0 = first_decimal (suc n) (omega arith) h in
    either (length (decimal (suc n)) == 1) (get_or (decimal (suc n)) 0 0) first
  where
    either : (a : Bool) (d : ℕ) → 48 < d → (a || not (d == 48)) ≡ true
    either true d lt = refl
    either false d lt = grind arith

big : (n : ℕ) → IsNumber n → n < 2 ^ 64
big n h = omega arith

pub length-decimal : (n : ℕ) → IsNumber n → length (decimal n) ≤ 10
length-decimal n h = length-decimal-le 10 n (omega arith) h (big n h)

-- the decimal of a number spells a number
is_decimal-decimal : (n : ℕ) → IsNumber n → is_decimal (decimal n) ≡ true
is_decimal-decimal n h =
    let some = decimal_nonempty n (big n h) in
    let short = length-decimal n h in
    let low : nat_le 1 (length (decimal n)) ≡ true = grind arith in
    let high : nat_le (length (decimal n)) 10 ≡ true = grind arith in
    let digits = digits_decimal own n (big n h) in
    and_true _ _ (and_true _ _ (and_true _ _ low high) digits) (no_leading_zero n (big n h))

pub read_number-decimal : (n : ℕ) → IsNumber n → read_number (decimal n) ≡ Some n
read_number-decimal n h =
    ap (λ b. cond b (Some (digits_value 10 (decimal n))) None) (is_decimal-decimal n h)
    ∙ ap Some (digits_value-decimal own n (big n h))

-- what holds of a field that spells a number
record IsNumberField (field : List ℕ) : Type 0 where
  some : 0 < length field
  short : length field ≤ 10
  digits : list_all is_digit field ≡ true
  zero_alone : get_or field 0 0 ≡ 48 → length field ≡ 1

number_parts : (field : List ℕ) → is_decimal field ≡ true → IsNumberField field
number_parts field e =
    let one = length field == 1 in
    let least = nat_le 1 (length field) in
    let most = nat_le (length field) 10 in
    let outer =
    and_parts (least && most && list_all is_digit field)
    (one || not (get_or field 0 0 == 48)) e in
    let inner = and_parts (least && most) (list_all is_digit field) outer.0 in
    let lens = and_parts least most inner.0 in
    let low : nat_le 1 (length field) ≡ true = lens.0 in
    let high : nat_le (length field) 10 ≡ true = lens.1 in
    record {
      some = grind arith;
      short = grind arith;
      digits = inner.1;
      zero_alone = λ z. eqb-true (length field) 1 (or_parts one (get_or field 0 0) outer.1 z);
    }

not_number : (field : List ℕ) → (IsNumberField field → ⊥) → None ≡ read_number field
not_number field never =
    by (is_decimal field) (digits_value 10 field) (λ e. never (number_parts field e))
  where
    by : (t : Bool) (n : ℕ) → (t ≡ true → ⊥) → None ≡ cond t (Some n) None
    by true n never = absurd (never refl)
    by false n never = refl

-- neither an empty field nor one of more than ten bytes spells a number
pub not_number-length :
    (field : List ℕ) (empty : Bool) → empty ≡ (length field == 0)
    → (empty ≡ true) ⊎ ((empty ≡ false) × (10 < length field)) → None ≡ read_number field
not_number-length field empty is (inl none) =
    let none = eqb-true (length field) 0 (sym is ∙ none) in
    not_number field (λ parts. omega (arith, none, parts.some))
not_number-length field empty is (inr long) =
    not_number field (λ parts. omega (arith, long.1, parts.short))

-- nor does a field of two or more bytes if the first is a zero
pub not_number-zero :
    (field : List ℕ) → 1 < length field → get_or field 0 0 ≡ 48 → None ≡ read_number field
not_number-zero field more first =
    not_number field (λ parts. let one = parts.zero_alone first in omega (arith, one, more))

digit_at :
    (ds : List ℕ) (i : ℕ) → i < length ds → list_all is_digit ds ≡ true
    → is_digit (get_or ds i 0) ≡ true
digit_at [] i lt h = absurd (omega arith)
digit_at (d ∷ ds) zero lt h = (and_parts (is_digit d) (list_all is_digit ds) h).0
digit_at (d ∷ ds) (suc i) lt h =
    digit_at ds i (omega arith) (and_parts (is_digit d) (list_all is_digit ds) h).1

-- nor does a field with a byte that is not a digit
pub not_number-digit :
    (field : List ℕ) (i : ℕ) → i < length field → false ≡ is_digit (get_or field i 0)
    → None ≡ read_number field
not_number-digit field i lt other =
    not_number field (λ parts. false≢true (other ∙ digit_at field i lt parts.digits))

-- the number of a field is the value of its digits
pub read_number-digits :
    (field : List ℕ) (n i : ℕ) → length field ≤ i → false ≡ (length field == 0)
    → length field ≤ 10
    → (length field ≤ 1) ⊎ (get_or field 0 0 ≢ 48) → list_all is_digit (take i field) ≡ true
    → n ≡ digits_value 10 (take i field) → Some n ≡ read_number field
read_number-digits field n i le some short alone digits value =
    let all = take_all i field le in
    let pos : 0 < length field = grind arith in
    let low : nat_le 1 (length field) ≡ true = grind arith in
    let high : nat_le (length field) 10 ≡ true = grind arith in
    let number : is_decimal field ≡ true =
    and_true _ _
    (and_true _ _ (and_true _ _ low high) (sym (ap (list_all is_digit) all) ∙ digits))
    (test pos alone) in
    ap Some (value ∙ ap (digits_value 10) all)
    ∙ sym (ap (λ b. cond b (Some (digits_value 10 field)) None) number)
  where
    test :
        0 < length field → (length field ≤ 1) ⊎ (get_or field 0 0 ≢ 48)
        → (length field == 1 || not (get_or field 0 0 == 48)) ≡ true
    test pos (inl one) = grind arith
    test pos (inr other) = grind arith

-- a field that spells a number is the decimal of that number
pub decimal-read_number :
    (field : List ℕ) (n : ℕ) → read_number field ≡ Some n → (field ≡ decimal n) × IsNumber n
decimal-read_number field n h = by (is_decimal field) refl h
  where
    printed :
        is_decimal field ≡ true
        → (decimal (digits_value 10 field) ≡ field) × IsNumber (digits_value 10 field)
    printed e =
        let parts = number_parts field e in
        let small = digits_value_short own field 10 parts.digits parts.short in (
          decimal-digits_value own field parts.digits parts.some parts.zero_alone
              (big (digits_value 10 field) small),
          small,
        )

    by :
        (b : Bool) → is_decimal field ≡ b → cond b (Some (digits_value 10 field)) None ≡ Some n
        → (field ≡ decimal n) × IsNumber n
    by false e h = cc
    by true e h =
        let value : digits_value 10 field ≡ n = some_inj h in
        let p = printed e in
        (sym p.0 ∙ ap decimal value, subst (λ m. m < 10 ^ 10) value p.1)

digit_is_no_space : (d : ℕ) → is_digit d ≡ true → is_no_space d ≡ true
digit_is_no_space d h =
    let parts = and_parts (nat_le 48 d) (nat_le d 57) h in
    let low : nat_le 48 d ≡ true = parts.0 in
    grind arith

digits_are_word : (ds : List ℕ) → list_all is_digit ds ≡ true → is_word ds ≡ true
digits_are_word [] h = refl
digits_are_word (d ∷ ds) h =
    let parts = and_parts (is_digit d) (list_all is_digit ds) h in
    and_true (is_no_space d) (is_word ds) (digit_is_no_space d parts.0)
    (digits_are_word ds parts.1)

-- a decimal has no space
pub decimal_is_word : (n : ℕ) → IsNumber n → is_word (decimal n) ≡ true
decimal_is_word n h = digits_are_word (decimal n) (digits_decimal own n (big n h))
