-- NameLemmas: which bytes a name may contain, by the table, and names that grow byte by byte.
use Rattle.std.proofs.Common.{◌≡◌, ◌<◌, ◌≤◌, ◌+◌, ◌-◌, ◌^◌, ◌&&◌, ◌⊎◌, ◌∙◌, ℕ, zero, suc, Bool}
use Rattle.std.proofs.Common.{true, false, not, List, [], ◌∷◌, ◌++◌, length, take, drop, get_or}
use Rattle.std.proofs.Common.{ap, refl, sym, subst, arith, inl, inr}
use Rattle.std.specs.Prelude.{Option, IfSome, IsSome, IsTrue, ◌↔◌}
use Rattle.std.specs.List.{list_all}
use Rattle.std.proofs.lemmas.Bool.{cases_lt}
use Rattle.std.proofs.lemmas.List.{length-take-le, length-drop, length-append}
use Rattle.std.proofs.lemmas.List.{take-append-le, take-append-drop, take_all}
use Rattle.std.proofs.lemmas.List.{take-take, take_rest, take_at, drop_all}
use Rattle.std.proofs.Math.Seq.{drop-cons}
use Rattle.pt_types.specs.Names.{is_name_byte}
use Rattle.pt_types.specs.declared.name.TheConstants.{ALLOWED_BYTES}

and_parts : (a b : Bool) → (a && b) ≡ true → (a ≡ true) × (b ≡ true)
and_parts true b h = (refl, h)
and_parts false b h = cc

pub and_true : (a b : Bool) → a ≡ true → b ≡ true → (a && b) ≡ true
and_true true b e f = f
and_true false b e f = cc

abbrev same : Bool → Bool → Bool
same true b = b
same false b = not b

same_are : (a b : Bool) → same a b ≡ true → a ≡ b
same_are true b h = sym h
same_are false true h = h
same_are false false h = refl

-- whether the table is right for each byte below n
abbrev right_below : ℕ → Bool
right_below zero = true
right_below (suc n) = same (get_or ALLOWED_BYTES n false) (is_name_byte n) && right_below n

right_at :
    (n byte : ℕ) → right_below n ≡ true → byte < n → get_or ALLOWED_BYTES byte false
    ≡ is_name_byte byte
right_at zero byte h lt = absurd (omega arith)
right_at (suc n) byte h lt =
    let parts =
    and_parts (same (get_or ALLOWED_BYTES n false) (is_name_byte n)) (right_below n) h in
    by (cases_lt byte n) parts.0 (right_at n byte parts.1)
  where
    by :
        (byte < n) ⊎ (n ≤ byte) → same (get_or ALLOWED_BYTES n false) (is_name_byte n) ≡ true
        → (byte < n → get_or ALLOWED_BYTES byte false ≡ is_name_byte byte)
        → get_or ALLOWED_BYTES byte false ≡ is_name_byte byte
    by (inl less) here below = below less
    by (inr more) here below =
        let at : n ≡ byte = omega arith in
        subst (λ m. get_or ALLOWED_BYTES m false ≡ is_name_byte m) at
        (same_are (get_or ALLOWED_BYTES n false) (is_name_byte n) here)

pub may_stand_at : (byte : ℕ) → byte < 2 ^ 8 → get_or ALLOWED_BYTES byte false ≡ is_name_byte byte
may_stand_at byte fits = right_at 256 byte refl fits

-- a number of bytes from an index on, one by one, and what follows them
abbrev one_by_one : List ℕ → ℕ → ℕ → List ℕ → List ℕ
one_by_one xs i zero fill = fill
one_by_one xs i (suc n) fill = get_or xs i 0 ∷ one_by_one xs (suc i) n fill

all_one_by_one :
    (xs fill : List ℕ) (i n : ℕ) → length xs ≡ i + n → one_by_one xs i n fill ≡ drop i xs ++ fill
all_one_by_one xs fill i zero e = ap (λ ys. ys ++ fill) (sym (drop_all i xs (omega (arith, e))))
all_one_by_one xs fill i (suc n) e =
    ap (λ ys. get_or xs i 0 ∷ ys) (all_one_by_one xs fill (suc i) n (omega (arith, e)))
    ∙ ap (λ ys. ys ++ fill) (sym (drop-cons xs i 0 (omega (arith, e))))

pub filled_front :
    (xs fill word : List ℕ) (n : ℕ) → n ≤ length xs → length xs < suc n
    → word ≡ one_by_one xs 0 n fill → take (length xs) word ≡ xs
filled_front xs fill word n least below e =
    ap (take (length xs)) (e ∙ all_one_by_one xs fill 0 n (omega (arith, least, below)))
    ∙ take_at xs fill (length xs) refl

-- whether a name may contain all of some bytes, with bytes after them that it may contain
pub filled_stand :
    (xs fill word : List ℕ) (n : ℕ) → n ≤ length xs → length xs < suc n
    → word ≡ one_by_one xs 0 n fill → list_all is_name_byte fill ≡ true
    → list_all is_name_byte word ≡ list_all is_name_byte xs
filled_stand xs fill word n least below e all =
    ap (list_all is_name_byte) (e ∙ all_one_by_one xs fill 0 n (omega (arith, least, below)))
    ∙ stand_before xs
  where
    stand_before : (ys : List ℕ) → list_all is_name_byte (ys ++ fill) ≡ list_all is_name_byte ys
    stand_before [] = all
    stand_before (y ∷ ys) = ap (λ b. is_name_byte y && b) (stand_before ys)

-- the block of one byte
pub one_front :
    (xs : List ℕ) (o : Option (List ℕ)) → 1 ≤ length xs → length xs < 2
    → IfSome o (λ block. take 1 block ≡ get_or xs 0 0 ∷ [])
    → IfSome o (λ block. take (length xs) block ≡ xs)
one_front [] o least below front = absurd (omega (arith, least))
one_front (x ∷ []) o least below front = front
one_front (x ∷ y ∷ xs) o least below front = absurd (omega (arith, below))

pub one_stand :
    (xs : List ℕ) (o : Option (List ℕ)) → 1 ≤ length xs → length xs < 2
    → IsSome o ↔ IsTrue (is_name_byte (get_or xs 0 0))
    → IsSome o ↔ IsTrue (list_all is_name_byte xs)
one_stand [] o least below stand = absurd (omega (arith, least))
one_stand (x ∷ []) o least below stand = (
  λ some. and_true (is_name_byte x) true (stand.0 some) refl,
  λ all. stand.1 (and_parts (is_name_byte x) true all).0,
)
one_stand (x ∷ y ∷ xs) o least below stand = absurd (omega (arith, below))

-- bytes by their first sixteen and a word that begins with the others
pub longer_front :
    (bytes word zeros : List ℕ) → 16 ≤ length bytes → length bytes - 16 ≤ length word
    → take (length bytes - 16) word ≡ drop 16 bytes
    → take (length bytes) (take 16 bytes ++ (word ++ zeros)) ≡ bytes
longer_front bytes word zeros long fits rest =
    let sixteen = length-take-le 16 bytes long in
    take-append-more (take 16 bytes) (word ++ zeros) (length bytes) (length bytes - 16)
    (omega (arith, long, sixteen))
    ∙ ap (λ ys. take 16 bytes ++ ys) (take-append-le (length bytes - 16) word zeros fits ∙ rest)
    ∙ take-append-drop 16 bytes
  where
    take-append-more :
        (xs ys : List ℕ) (m n : ℕ) → m ≡ length xs + n → take m (xs ++ ys) ≡ xs ++ take n ys
    take-append-more [] ys m n e = ap (λ k. take k ys) (omega (arith, e))
    take-append-more (x ∷ xs) ys zero n e = absurd (omega (arith, e))
    take-append-more (x ∷ xs) ys (suc m) n e =
        ap (λ zs. x ∷ zs) (take-append-more xs ys m n (omega (arith, e)))

-- if a name may contain all of some bytes and all of some more, it may contain both together
pub stand_both :
    (xs ys : List ℕ) → list_all is_name_byte xs ≡ true → list_all is_name_byte ys ≡ true
    → list_all is_name_byte (xs ++ ys) ≡ true
stand_both [] ys one two = two
stand_both (x ∷ xs) ys one two =
    let parts = and_parts (is_name_byte x) (list_all is_name_byte xs) one in
    and_true (is_name_byte x) (list_all is_name_byte (xs ++ ys)) parts.0
    (stand_both xs ys parts.1 two)

-- whether a name may contain all bytes of a word
pub word_all :
    (word bytes : List ℕ) → length word ≡ 8
    → list_all is_name_byte word ≡ list_all is_name_byte bytes
    → list_all is_name_byte (take 8 word) ≡ true → list_all is_name_byte bytes ≡ true
word_all word bytes long same all =
    sym same ∙ (ap (list_all is_name_byte) (sym (take_all 8 word (omega (arith, long)))) ∙ all)

-- the bytes of a name, in a block that begins with a word that begins with them
pub short_front :
    (bytes block pair word zeros more : List ℕ) → block ≡ pair ++ more → pair ≡ word ++ zeros
    → length word ≡ 8 → length bytes ≤ 8 → take (length bytes) word ≡ bytes
    → take (length bytes) block ≡ bytes
short_front bytes block pair word zeros more e first long few front =
    let fits : length bytes ≤ length word = omega (arith, long, few) in
    let both : length bytes ≤ length (word ++ zeros) =
    omega (arith, length-append word zeros, fits) in
    ap (take (length bytes)) (e ∙ ap (λ xs. xs ++ more) first)
    ∙ take-append-le (length bytes) (word ++ zeros) more both
    ∙ take-append-le (length bytes) word zeros fits
    ∙ front

-- a block by its halves
pub halves :
    (block one two : List ℕ) (n : ℕ) → length block ≡ 32 → one ≡ take 16 block
    → two ≡ take 16 (take n (drop 16 block)) → 16 ≤ n → one ++ two ≡ block
halves block one two n long first second enough =
    let short : length (drop 16 block) ≤ 16 = omega (arith, length-drop 16 block, long) in
    ap (λ xs. xs ++ two) first
    ∙ ap (λ xs. take 16 block ++ xs)
    (second ∙ (take-take 16 n (drop 16 block) enough ∙ take_all 16 (drop 16 block) short))
    ∙ take-append-drop 16 block

-- whether a name may contain all of some bytes, by the first sixteen and a word that begins with
-- the others
pub long_all :
    (bytes word : List ℕ) → list_all is_name_byte (take 16 bytes) ≡ true → length word ≡ 8
    → list_all is_name_byte word
    ≡ list_all is_name_byte (take (length bytes - 16) (drop 16 bytes))
    → list_all is_name_byte (take 8 word) ≡ true → list_all is_name_byte bytes ≡ true
long_all bytes word first long same all =
    ap (list_all is_name_byte) (sym (take-append-drop 16 bytes))
    ∙ stand_both (take 16 bytes) (drop 16 bytes) first
    (word_all word (drop 16 bytes) long
    (same ∙ ap (list_all is_name_byte) (take_rest bytes 16)) all)

-- the bytes of a name, in its block
pub long_front :
    (bytes block half pair word zeros : List ℕ) → block ≡ half ++ pair → half ≡ take 16 bytes
    → pair ≡ word ++ zeros → 16 ≤ length bytes → length word ≡ 8 → length bytes - 16 ≤ 8
    → take (length (take (length bytes - 16) (drop 16 bytes))) word
    ≡ take (length bytes - 16) (drop 16 bytes)
    → take (length bytes) block ≡ bytes
long_front bytes block half pair word zeros e first second enough long few rest =
    let count : length (take (length bytes - 16) (drop 16 bytes)) ≡ length bytes - 16 =
    ap length (take_rest bytes 16) ∙ length-drop 16 bytes in
    ap (take (length bytes)) (e ∙ (ap (λ xs. xs ++ pair) first
    ∙ ap (λ xs. take 16 bytes ++ xs) second))
    ∙ longer_front bytes word zeros enough (omega (arith, long, few))
    (ap (λ k. take k word) (sym count) ∙ (rest ∙ take_rest bytes 16))

stand_front :
    (m : ℕ) (xs : List ℕ) → list_all is_name_byte xs ≡ true
    → list_all is_name_byte (take m xs) ≡ true
stand_front zero xs all = refl
stand_front (suc m) [] all = refl
stand_front (suc m) (x ∷ xs) all =
    let parts = and_parts (is_name_byte x) (list_all is_name_byte xs) all in
    and_true (is_name_byte x) (list_all is_name_byte (take m xs)) parts.0
    (stand_front m xs parts.1)

-- whether a name may contain all of some bytes, by n at each end that cover them all
pub both_ends :
    (bytes : List ℕ) (n k : ℕ) → length bytes ≤ n + n → n ≤ length bytes → n ≤ k
    → list_all is_name_byte (take n bytes) ≡ true
    → list_all is_name_byte (take n (take k (drop (length bytes - n) bytes))) ≡ true
    → list_all is_name_byte bytes ≡ true
both_ends bytes n k few enough more first last =
    let at = length bytes - n in
    let short : at ≤ n = omega (arith, few) in
    let rest : length (drop at bytes) ≤ n = omega (arith, length-drop at bytes, enough) in
    let front =
    ap (list_all is_name_byte) (sym (take-take at n bytes short))
    ∙ stand_front at (take n bytes) first in
    let back =
    ap (list_all is_name_byte) (sym (take-take n k (drop at bytes) more
    ∙ take_all n (drop at bytes) rest))
    ∙ last in
    ap (list_all is_name_byte) (sym (take-append-drop at bytes))
    ∙ stand_both (take at bytes) (drop at bytes) front back
