-- StartLemmas: the bytes of a client's name by the table, and the client that a line begins with.
use Rattle.std.proofs.Common.{◌≡◌, ◌<◌, ◌≤◌, ◌+◌, ◌-◌, ◌^◌, ◌∙◌, ◌&&◌, ◌⊎◌, ℕ, zero, suc}
use Rattle.std.proofs.Common.{Bool, true, false, not, List, ◌∷◌, ◌++◌, length, take, drop}
use Rattle.std.proofs.Common.{get_or, refl, ap, sym, subst, arith, inl, inr, Some}
use Rattle.std.proofs.lemmas.Bool.{cases_lt}
use Rattle.std.proofs.lemmas.List.{length-take-le, length-drop, take-append-drop}
use Rattle.std.proofs.lemmas.List.{drop_more, take_all, take-take}
use Rattle.std.specs.List.{list_all}
use Rattle.pt_grammar.specs.declared.client.TheConstants.{ALLOWED_BYTES}
use Rattle.pt_grammar.specs.declared.client.Who.TheVariants.{Named}
use Rattle.pt_grammar.specs.ClientNames.{is_client_byte, IsClientName}
use Rattle.pt_grammar.specs.Clients.{who_named, before_space, after_space}
use Rattle.pt_grammar.proofs.ClientLemmas.{before-word, behind-word, client_name_is_word}
use Rattle.pt_grammar.proofs.ClientLemmas.{named_again}
use Rattle.pt_fields.proofs.TestLemmas.{and_parts}

abbrev same : Bool → Bool → Bool
same true b = b
same false b = not b

same_are : (a b : Bool) → same a b ≡ true → a ≡ b
same_are true b h = sym h
same_are false true h = h
same_are false false h = refl

-- whether the table is right for each byte below n
abbrev right_below : ℕ → Bool
right_below zero = true
right_below (suc n) = same (get_or ALLOWED_BYTES n false) (is_client_byte n) && right_below n

right_at :
    (n byte : ℕ) → right_below n ≡ true → byte < n
    → get_or ALLOWED_BYTES byte false ≡ is_client_byte byte
right_at zero byte h lt = absurd (omega arith)
right_at (suc n) byte h lt =
    let parts =
    and_parts (same (get_or ALLOWED_BYTES n false) (is_client_byte n)) (right_below n) h in
    by (cases_lt byte n) parts.0 (right_at n byte parts.1)
  where
    by :
        (byte < n) ⊎ (n ≤ byte) → same (get_or ALLOWED_BYTES n false) (is_client_byte n) ≡ true
        → (byte < n → get_or ALLOWED_BYTES byte false ≡ is_client_byte byte)
        → get_or ALLOWED_BYTES byte false ≡ is_client_byte byte
    by (inl less) here below = below less
    by (inr more) here below =
        let at : n ≡ byte = omega arith in
        subst (λ m. get_or ALLOWED_BYTES m false ≡ is_client_byte m) at
        (same_are (get_or ALLOWED_BYTES n false) (is_client_byte n) here)

pub may_stand_at :
    (byte : ℕ) → byte < 2 ^ 8 → get_or ALLOWED_BYTES byte false ≡ is_client_byte byte
may_stand_at byte fits = right_at 256 byte refl fits

-- a text, split after its first bytes
pub by_start :
    (text items : List ℕ) (n : ℕ) → items ≡ take n text → n ≤ length text
    → text ≡ items ++ drop (length items) text
by_start text items n is le =
    let long : length items ≡ n = ap length is ∙ length-take-le n text le in
    sym (take-append-drop n text)
    ∙ ap (λ ys. ys ++ drop n text) (sym is)
    ∙ ap (λ m. items ++ drop m text) (sym long)

-- the first bytes of a text, from a block that it begins with
pub front_of :
    (block text : List ℕ) (n len : ℕ) → block ≡ take n text → len ≤ n
    → take len block ≡ take len text
front_of block text n len is le = ap (take len) is ∙ take-take len n text le

-- a client's name, from the block that begins with it
pub named_by :
    (block text : List ℕ) (len : ℕ) → take len block ≡ take len text → 1 ≤ len → len ≤ 8
    → len ≤ length text → list_all is_client_byte (take len text) ≡ true
    → IsClientName (take len block)
named_by block text len same some few within stand =
    let long = length-take-le len text within in
    subst IsClientName (sym same)
    (record { some = omega (arith, long, some); fits = omega (arith, long, few); bytes = stand })

pub whole :
    (block name : List ℕ) → take (length name) block ≡ take (length name) name
    → take (length name) block ≡ name
whole block name same = same ∙ take_all (length name) name (omega arith)

pub whole_name :
    (block name : List ℕ) → take (length name) block ≡ take (length name) name
    → IsClientName name → IsClientName (take (length name) block)
whole_name block name same is = subst IsClientName (sym (whole block name same)) is

-- the text after a name and a space at its start
behind : (text : List ℕ) (n : ℕ) → take (length text - n) (drop n text) ≡ drop n text
behind text n =
    take_all (length text - n) (drop n text) (omega (arith, length-drop n text))

pub at_space :
    (text name : List ℕ) (len : ℕ) → len ≡ length name → text ≡ name ++ drop (length name) text
    → len < length text → get_or text len 0 ≡ 32
    → text ≡ name ++ 32 ∷ take (length text - (len + 1)) (drop (len + 1) text)
at_space text name len is parts lt space =
    parts
    ∙ ap (λ n. name ++ drop n text) (sym is)
    ∙ ap (λ ys. name ++ ys) (drop_more text len 0 lt)
    ∙ ap (λ b. name ++ b ∷ drop (len + 1) text) space
    ∙ ap (λ ys. name ++ 32 ∷ ys) (sym (behind text (len + 1)))

-- the client of a text that begins with a name and a space
pub who_at_start :
    (text name rest : List ℕ) → IsClientName name → text ≡ name ++ 32 ∷ rest
    → Named name ≡ who_named (before_space text)
who_at_start text name rest named is =
    sym (ap (λ t. who_named (before_space t)) is
    ∙ ap who_named (before-word name rest (client_name_is_word name named))
    ∙ named_again name named)

pub rest_at_start :
    (text name rest : List ℕ) → IsClientName name → text ≡ name ++ 32 ∷ rest
    → Some rest ≡ after_space text
rest_at_start text name rest named is =
    sym (ap after_space is ∙ behind-word name rest (client_name_is_word name named))
