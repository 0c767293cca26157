-- FieldLemmas: a text and its fields.
use Rattle.std.proofs.Common.{◌≡◌, ◌≢◌, ◌<◌, ◌+◌, ◌∙◌, ◌==◌, ◌&&◌, not, ℕ, zero, suc, Bool, true}
use Rattle.std.proofs.Common.{false, cond, List, [], ◌∷◌, ◌++◌, length, take, drop, get_or, nat_le}
use Rattle.std.proofs.Common.{refl, ap, sym, arith, None, Some, add-one}
use Rattle.std.proofs.lemmas.Bool.{eq-eqb, eqb-true}
use Rattle.std.specs.List.{list_all}
use Rattle.memchr.specs.Find.{IsFirstByte, is_byte}
use Rattle.pt_fields.specs.Fields.{fields, push_first, join_with_spaces, after_spaces}
use Rattle.pt_fields.proofs.TestLemmas.{and_parts}

pub not_space : (x : ℕ) → x ≢ 32 → (x == 32) ≡ false
not_space x ne = grind arith

-- a byte other than a space goes into the first field
pub fields-other :
    (x : ℕ) (xs : List ℕ) → (x == 32) ≡ false → fields (x ∷ xs) ≡ push_first x (fields xs)
fields-other x xs ne = ap (λ b. cond b ([] ∷ fields xs) (push_first x (fields xs))) ne

-- the first field ends at the first space
fields-at :
    (xs : List ℕ) (i : ℕ) → i < length xs → get_or xs i 0 ≡ 32
    → ((k : ℕ) → k < i → get_or xs k 0 ≢ 32)
    → fields xs ≡ take i xs ∷ fields (drop (i + 1) xs)
fields-at [] i lt here before = absurd (omega arith)
fields-at (x ∷ xs) zero lt here before =
    ap (λ b. cond b ([] ∷ fields xs) (push_first x (fields xs))) (eq-eqb x 32 here)
fields-at (x ∷ xs) (suc i) lt here before =
    let rest = fields-at xs i (omega arith) here (λ k small. before (suc k) (omega arith)) in
    let same =
    ap (λ n. drop n xs) (add-one i) ∙ sym (ap (λ n. drop n (x ∷ xs)) (add-one (suc i))) in
    fields-other x xs (not_space x (before 0 (omega arith)))
    ∙ ap (push_first x) rest
    ∙ ap (λ ys. (x ∷ take i xs) ∷ fields ys) same

-- a text with no space is its only field
fields-one :
    (xs : List ℕ) → ((k : ℕ) → k < length xs → get_or xs k 0 ≢ 32) → fields xs ≡ xs ∷ []
fields-one [] none = refl
fields-one (x ∷ xs) none =
    fields-other x xs (not_space x (none 0 (omega arith)))
    ∙ ap (push_first x) (fields-one xs (λ k small. none (suc k) (omega arith)))

-- the first field ends at the space that memchr finds
pub fields-found :
    (xs : List ℕ) (i : ℕ) → IsFirstByte (is_byte 32) xs (Some i)
    → fields xs ≡ take i xs ∷ fields (drop (i + 1) xs)
fields-found xs i h =
    fields-at xs i h.0.high (eqb-true (get_or xs i 0) 32 h.1)
    (λ k lt e. h.0.before k (omega arith) lt (eq-eqb (get_or xs k 0) 32 e))

pub fields-none :
    (xs : List ℕ) → IsFirstByte (is_byte 32) xs None → fields xs ≡ xs ∷ []
fields-none xs h = fields-one xs (λ k lt e. h k (omega arith) lt (eq-eqb (get_or xs k 0) 32 e))

-- whether a byte is not a space
abbrev pub is_no_space : ℕ → Bool
is_no_space b = not (b == 32)

-- whether a word has no space
abbrev pub is_word : List ℕ → Bool
is_word word = list_all is_no_space word

-- whether it also has at most 15 bytes
abbrev pub is_short_word : List ℕ → Bool
is_short_word word = nat_le (length word) 15 && is_word word

-- the words of a line
abbrev pub AreWords : List (List ℕ) → Type 0
AreWords [] = Unit {0}
AreWords (word ∷ words) = (is_word word ≡ true) × AreWords words

pub no_space_is : (x : ℕ) → is_no_space x ≡ true → (x == 32) ≡ false
no_space_is x h = by (x == 32) h
  where
    by : (b : Bool) → not b ≡ true → b ≡ false
    by true h = sym h
    by false h = refl

-- a word with a space after it is the first field
pub fields-word :
    (word rest : List ℕ) → is_word word ≡ true
    → fields (word ++ 32 ∷ rest) ≡ word ∷ fields rest
fields-word [] rest h = refl
fields-word (x ∷ word) rest h =
    let parts = and_parts (is_no_space x) (is_word word) h in
    fields-other x (word ++ 32 ∷ rest) (no_space_is x parts.0)
    ∙ ap (push_first x) (fields-word word rest parts.1)

fields-last : (word : List ℕ) → is_word word ≡ true → fields (word ++ []) ≡ word ∷ []
fields-last [] h = refl
fields-last (x ∷ word) h =
    let parts = and_parts (is_no_space x) (is_word word) h in
    fields-other x (word ++ []) (no_space_is x parts.0)
    ∙ ap (push_first x) (fields-last word parts.1)

-- words separated by single spaces are the fields
pub fields-join_with_spaces :
    (word : List ℕ) (words : List (List ℕ)) → is_word word ≡ true → AreWords words
    → fields (join_with_spaces word words) ≡ word ∷ words
fields-join_with_spaces word [] h all = fields-last word h
fields-join_with_spaces word (next ∷ words) h all =
    fields-word word (join_with_spaces next words) h
    ∙ ap (λ ws. word ∷ ws) (fields-join_with_spaces next words all.0 all.1)

-- fields joined with single spaces
abbrev together : List (List ℕ) → List ℕ
together [] = []
together (word ∷ words) = join_with_spaces word words

together-push : (b : ℕ) (fs : List (List ℕ)) → together (push_first b fs) ≡ b ∷ together fs
together-push b [] = refl
together-push b (field ∷ fs) = refl

behind-push :
    (b : ℕ) (fs : List (List ℕ))
    → after_spaces (push_first b fs) ≡ 32 ∷ together (push_first b fs)
behind-push b [] = refl
behind-push b (field ∷ fs) = refl

behind-fields : (text : List ℕ) → after_spaces (fields text) ≡ 32 ∷ together (fields text)
behind-fields [] = refl
behind-fields (b ∷ bytes) = by (b == 32)
  where
    by :
        (t : Bool)
        → after_spaces (cond t ([] ∷ fields bytes) (push_first b (fields bytes)))
        ≡ 32 ∷ together (cond t ([] ∷ fields bytes) (push_first b (fields bytes)))
    by true = refl
    by false = behind-push b (fields bytes)

-- a text is its fields, joined with single spaces
together-fields : (text : List ℕ) → together (fields text) ≡ text
together-fields [] = refl
together-fields (b ∷ bytes) = by (together-fields bytes) (b == 32) refl
  where
    by :
        together (fields bytes) ≡ bytes → (t : Bool) → (b == 32) ≡ t
        → together (cond t ([] ∷ fields bytes) (push_first b (fields bytes))) ≡ b ∷ bytes
    by same true e =
        behind-fields bytes ∙ ap (λ ys. 32 ∷ ys) same ∙ ap (λ x. x ∷ bytes) (sym (eqb-true b 32 e))
    by same false e = together-push b (fields bytes) ∙ ap (λ ys. b ∷ ys) same

pub spaced_fields :
    (text field : List ℕ) (rest : List (List ℕ)) → fields text ≡ field ∷ rest
    → text ≡ join_with_spaces field rest
spaced_fields text field rest split = sym (together-fields text) ∙ ap together split
