-- ClientLemmas: a line's client and the text after it.
use Rattle.std.proofs.Common.{◌≡◌, ◌≢◌, ◌<◌, ◌+◌, ◌∙◌, ◌==◌, ◌&&◌, not, ℕ, zero, suc, Bool, true}
use Rattle.std.proofs.Common.{false, cond, List, [], ◌∷◌, ◌++◌, length, take, drop, get_or, nat_le}
use Rattle.std.proofs.Common.{refl, ap, sym, subst, arith, None, Some, add-one, codes}
use Rattle.std.proofs.lemmas.Bool.{eq-eqb, eqb-true}
use Rattle.std.specs.List.{list_all}
use Rattle.std.specs.Str.{bytes_eq}
use Rattle.memchr.specs.Find.{IsFirstByte, is_byte}
use Rattle.pt_grammar.specs.declared.client.Who.{Who}
use Rattle.pt_grammar.specs.declared.client.Who.TheVariants.{Named, Star, Unknown}
use Rattle.pt_grammar.specs.ClientNames.{is_client_byte, IsClientName, is_client_name}
use Rattle.pt_grammar.specs.Clients.{who_named, before_space, after_space}
use Rattle.pt_grammar.proofs.ArgumentLemmas.{bytes_are}
use Rattle.pt_fields.proofs.FieldLemmas.{not_space, no_space_is, is_no_space, is_word}
use Rattle.pt_fields.proofs.TestLemmas.{and_parts, and_true}

before-other :
    (x : ℕ) (xs : List ℕ) → (x == 32) ≡ false → before_space (x ∷ xs) ≡ x ∷ before_space xs
before-other x xs ne = ap (λ b. cond b [] (x ∷ before_space xs)) ne

behind-other :
    (x : ℕ) (xs : List ℕ) → (x == 32) ≡ false → after_space (x ∷ xs) ≡ after_space xs
behind-other x xs ne = ap (λ b. cond b (Some xs) (after_space xs)) ne

-- the text before the first space
before-at :
    (xs : List ℕ) (i : ℕ) → i < length xs → get_or xs i 0 ≡ 32
    → ((k : ℕ) → k < i → get_or xs k 0 ≢ 32) → before_space xs ≡ take i xs
before-at [] i lt here before = absurd (omega arith)
before-at (x ∷ xs) zero lt here before =
    ap (λ b. cond b [] (x ∷ before_space xs)) (eq-eqb x 32 here)
before-at (x ∷ xs) (suc i) lt here before =
    before-other x xs (not_space x (before 0 (omega arith)))
    ∙ ap (λ ys. x ∷ ys)
    (before-at xs i (omega arith) here (λ k small. before (suc k) (omega arith)))

behind-at :
    (xs : List ℕ) (i : ℕ) → i < length xs → get_or xs i 0 ≡ 32
    → ((k : ℕ) → k < i → get_or xs k 0 ≢ 32) → after_space xs ≡ Some (drop (i + 1) xs)
behind-at [] i lt here before = absurd (omega arith)
behind-at (x ∷ xs) zero lt here before =
    ap (λ b. cond b (Some xs) (after_space xs)) (eq-eqb x 32 here)
behind-at (x ∷ xs) (suc i) lt here before =
    let same =
    ap (λ n. drop n xs) (add-one i) ∙ sym (ap (λ n. drop n (x ∷ xs)) (add-one (suc i))) in
    behind-other x xs (not_space x (before 0 (omega arith)))
    ∙ behind-at xs i (omega arith) here (λ k small. before (suc k) (omega arith))
    ∙ ap Some same

-- the text before the first space, if there is no space
before-none :
    (xs : List ℕ) → ((k : ℕ) → k < length xs → get_or xs k 0 ≢ 32) → before_space xs ≡ xs
before-none [] none = refl
before-none (x ∷ xs) none =
    before-other x xs (not_space x (none 0 (omega arith)))
    ∙ ap (λ ys. x ∷ ys) (before-none xs (λ k small. none (suc k) (omega arith)))

behind-none :
    (xs : List ℕ) → ((k : ℕ) → k < length xs → get_or xs k 0 ≢ 32) → after_space xs ≡ None
behind-none [] none = refl
behind-none (x ∷ xs) none =
    behind-other x xs (not_space x (none 0 (omega arith)))
    ∙ behind-none xs (λ k small. none (suc k) (omega arith))

-- the text before the space that memchr finds
pub before-found :
    (xs : List ℕ) (i : ℕ) → IsFirstByte (is_byte 32) xs (Some i) → before_space xs ≡ take i xs
before-found xs i h =
    before-at xs i h.0.high (eqb-true (get_or xs i 0) 32 h.1)
    (λ k lt e. h.0.before k (omega arith) lt (eq-eqb (get_or xs k 0) 32 e))

pub behind-found :
    (xs : List ℕ) (i : ℕ) → IsFirstByte (is_byte 32) xs (Some i)
    → after_space xs ≡ Some (drop (i + 1) xs)
behind-found xs i h =
    behind-at xs i h.0.high (eqb-true (get_or xs i 0) 32 h.1)
    (λ k lt e. h.0.before k (omega arith) lt (eq-eqb (get_or xs k 0) 32 e))

pub before-missing :
    (xs : List ℕ) → IsFirstByte (is_byte 32) xs None → before_space xs ≡ xs
before-missing xs h = before-none xs (λ k lt e. h k (omega arith) lt (eq-eqb (get_or xs k 0) 32 e))

pub behind-missing :
    (xs : List ℕ) → IsFirstByte (is_byte 32) xs None → after_space xs ≡ None
behind-missing xs h = behind-none xs (λ k lt e. h k (omega arith) lt (eq-eqb (get_or xs k 0) 32 e))

-- a word, a space, and other bytes
pub before-word :
    (word rest : List ℕ) → is_word word ≡ true → before_space (word ++ 32 ∷ rest) ≡ word
before-word [] rest h = refl
before-word (x ∷ word) rest h =
    let parts = and_parts (is_no_space x) (is_word word) h in
    before-other x (word ++ 32 ∷ rest) (no_space_is x parts.0)
    ∙ ap (λ ys. x ∷ ys) (before-word word rest parts.1)

pub behind-word :
    (word rest : List ℕ) → is_word word ≡ true → after_space (word ++ 32 ∷ rest) ≡ Some rest
behind-word [] rest h = refl
behind-word (x ∷ word) rest h =
    let parts = and_parts (is_no_space x) (is_word word) h in
    behind-other x (word ++ 32 ∷ rest) (no_space_is x parts.0) ∙ behind-word word rest parts.1

-- a text with a space consists of the two sides of it
pub both_sides :
    (text rest : List ℕ) → after_space text ≡ Some rest
    → text ≡ before_space text ++ 32 ∷ rest
both_sides [] rest h = cc
both_sides (x ∷ xs) rest h = by (both_sides xs rest) (x == 32) refl h
  where
    by :
        (after_space xs ≡ Some rest → xs ≡ before_space xs ++ 32 ∷ rest)
        → (b : Bool) → (x == 32) ≡ b → cond b (Some xs) (after_space xs) ≡ Some rest
        → x ∷ xs ≡ cond b [] (x ∷ before_space xs) ++ 32 ∷ rest
    by more true e h =
        let space : x ≡ 32 = eqb-true x 32 e in
        let same : xs ≡ rest = cc in
        ap (λ y. y ∷ xs) space ∙ ap (λ ys. 32 ∷ ys) same
    by more false e h = ap (λ ys. x ∷ ys) (more h)

-- the bytes of client names
client_byte_is_no_space : (b : ℕ) → is_client_byte b ≡ true → is_no_space b ≡ true
client_byte_is_no_space b h = by (b == 32) refl
  where
    by : (t : Bool) → (b == 32) ≡ t → is_no_space b ≡ true
    by true e =
        let space : is_client_byte 32 ≡ true =
        subst (λ x. is_client_byte x ≡ true) (eqb-true b 32 e) h in
        cc
    by false e = ap not e

bytes_are_word : (xs : List ℕ) → list_all is_client_byte xs ≡ true → is_word xs ≡ true
bytes_are_word [] h = refl
bytes_are_word (x ∷ xs) h =
    let parts = and_parts (is_client_byte x) (list_all is_client_byte xs) h in
    and_true (is_no_space x) (is_word xs) (client_byte_is_no_space x parts.0)
    (bytes_are_word xs parts.1)

pub client_name_is_word : (name : List ℕ) → IsClientName name → is_word name ≡ true
client_name_is_word name h = bytes_are_word name h.bytes

client_name_again : (name : List ℕ) → IsClientName name → is_client_name name ≡ true
client_name_again name h =
    let some = h.some in
    let fits = h.fits in
    let low : nat_le 1 (length name) ≡ true = grind arith in
    let high : nat_le (length name) 8 ≡ true = grind arith in
    and_true _ _ (and_true _ _ low high) h.bytes

client_name_found : (name : List ℕ) → is_client_name name ≡ true → IsClientName name
client_name_found name e =
    let least = nat_le 1 (length name) in
    let most = nat_le (length name) 8 in
    let outer = and_parts (least && most) (list_all is_client_byte name) e in
    let lens = and_parts least most outer.0 in
    let low : nat_le 1 (length name) ≡ true = lens.0 in
    let high : nat_le (length name) 8 ≡ true = lens.1 in
    record { some = grind arith; fits = grind arith; bytes = outer.1 }

-- what a line's client says about the name
abbrev pub IsNamed : List ℕ → Who → Type 0
IsNamed name (Named text) = (text ≡ name) × IsClientName text
IsNamed name Star = name ≡ codes "*"
IsNamed name Unknown = Unit {0}

pub named_is : (name : List ℕ) → IsNamed name (who_named name)
named_is name = by (bytes_eq name (codes "*")) refl
  where
    other :
        (b : Bool) → is_client_name name ≡ b → IsNamed name (cond b (Named name) Unknown)
    other true e = (refl, client_name_found name e)
    other false e = tt

    by :
        (b : Bool) → bytes_eq name (codes "*") ≡ b
        → IsNamed name (cond b Star (cond (is_client_name name) (Named name) Unknown))
    by true e = bytes_are name (codes "*") e
    by false e = other (is_client_name name) refl

-- a client's name is read as that client
pub named_again : (name : List ℕ) → IsClientName name → who_named name ≡ Named name
named_again name h = by (bytes_eq name (codes "*")) refl
  where
    by :
        (b : Bool) → bytes_eq name (codes "*") ≡ b
        → cond b Star (cond (is_client_name name) (Named name) Unknown) ≡ Named name
    by true e =
        let star : list_all is_client_byte (codes "*") ≡ true =
        subst (λ t. list_all is_client_byte t ≡ true) (bytes_are name (codes "*") e) h.bytes in
        cc
    by false e = ap (λ t. cond t (Named name) Unknown) (client_name_again name h)
