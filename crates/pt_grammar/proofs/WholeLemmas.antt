-- WholeLemmas: a single name or number is the whole text, since neither has a space.
use Rattle.std.proofs.Common.{◌≡◌, ◌∙◌, ◌==◌, ◌&&◌, not, ℕ, Bool, true, false, cond, List, [], ◌∷◌}
use Rattle.std.proofs.Common.{length, nat_le, refl, ap, sym, subst, Option, None, Some, slice_index}
use Rattle.std.proofs.Common.{◌||◌}
use Rattle.std.proofs.lemmas.Bool.{eqb-true}
use Rattle.std.specs.List.{list_all}
use Rattle.std.specs.Str.Parse.{digits_value}
use Rattle.pt_types.specs.Names.{is_name_byte}
use Rattle.pt_grammar.specs.Arguments.{read_name, single_field}
use Rattle.pt_fields.specs.Fields.{fields, push_first}
use Rattle.pt_fields.specs.Numbers.{read_number, is_digit}
use Rattle.pt_fields.proofs.FieldLemmas.{fields-other, no_space_is, is_no_space, is_word}
use Rattle.pt_fields.proofs.TestLemmas.{and_parts, and_true}

-- a text without a space is its one field
one_field : (text : List ℕ) → is_word text ≡ true → fields text ≡ text ∷ []
one_field [] h = refl
one_field (x ∷ xs) h =
    let parts = and_parts (is_no_space x) (is_word xs) h in
    fields-other x xs (no_space_is x parts.0) ∙ ap (push_first x) (one_field xs parts.1)

-- one or more fields
record AreSome (fs : List (List ℕ)) : Type 0 where
  pub first : List ℕ
  pub more : List (List ℕ)
  pub are : fs ≡ first ∷ more

-- two or more fields
record AreTwo (fs : List (List ℕ)) : Type 0 where
  pub first : List ℕ
  pub second : List ℕ
  pub more : List (List ℕ)
  pub are : fs ≡ first ∷ second ∷ more

push-some : (b : ℕ) (fs : List (List ℕ)) → AreSome (push_first b fs)
push-some b [] = record { first = b ∷ []; more = []; are = refl }
push-some b (field ∷ fs) = record { first = b ∷ field; more = fs; are = refl }

some_fields : (text : List ℕ) → AreSome (fields text)
some_fields [] = record { first = []; more = []; are = refl }
some_fields (b ∷ bytes) = by (b == 32)
  where
    by : (t : Bool) → AreSome (cond t ([] ∷ fields bytes) (push_first b (fields bytes)))
    by true = record { first = []; more = fields bytes; are = refl }
    by false = push-some b (fields bytes)

-- a text with a space has at least two fields
two_fields : (text : List ℕ) → is_word text ≡ false → AreTwo (fields text)
two_fields [] h = cc
two_fields (b ∷ bytes) h = by (two_fields bytes) (b == 32) refl
  where
    by :
        (is_word bytes ≡ false → AreTwo (fields bytes)) → (t : Bool) → (b == 32) ≡ t
        → AreTwo (cond t ([] ∷ fields bytes) (push_first b (fields bytes)))
    by more true e =
        let some = some_fields bytes in
        record {
          first = [];
          second = some.first;
          more = some.more;
          are = ap (λ fs. [] ∷ fs) some.are;
        }
    by more false e =
        let rest : is_word bytes ≡ false = sym (ap (λ t. not t && is_word bytes) e) ∙ h in
        let two = more rest in
        record {
          first = b ∷ two.first;
          second = two.second;
          more = two.more;
          are = ap (push_first b) two.are;
        }

whole :
    {X : Type 0} (read : List ℕ → Option X)
    → ((text : List ℕ) → is_word text ≡ false → read text ≡ None)
    → (text : List ℕ) → single_field read (fields text) ≡ read text
whole read none text = by (is_word text) refl
  where
    by : (t : Bool) → is_word text ≡ t → single_field read (fields text) ≡ read text
    by true e = ap (single_field read) (one_field text e)
    by false e = ap (single_field read) (two_fields text e).are ∙ sym (none text e)

no_space : (test : ℕ → Bool) (b : ℕ) → test 32 ≡ false → test b ≡ true → is_no_space b ≡ true
no_space test b not_there h = by (b == 32) refl
  where
    by : (t : Bool) → (b == 32) ≡ t → is_no_space b ≡ true
    by true e =
        let space : test 32 ≡ true = subst (λ x. test x ≡ true) (eqb-true b 32 e) h in
        cc
    by false e = ap not e

-- bytes that pass a test that a space fails form a word
all_no_space :
    (test : ℕ → Bool) (xs : List ℕ) → test 32 ≡ false → list_all test xs ≡ true
    → is_word xs ≡ true
all_no_space test [] not_there h = refl
all_no_space test (x ∷ xs) not_there h =
    let parts = and_parts (test x) (list_all test xs) h in
    and_true (is_no_space x) (is_word xs) (no_space test x not_there parts.0)
    (all_no_space test xs not_there parts.1)

no_name : (text : List ℕ) → is_word text ≡ false → read_name text ≡ None
no_name text h = by _ refl
  where
    by :
        (t : Bool)
        → (nat_le 1 (length text) && nat_le (length text) 32 && list_all is_name_byte text) ≡ t
        → cond t (Some text) None ≡ None
    by true e =
        let parts =
        and_parts (nat_le 1 (length text) && nat_le (length text) 32)
        (list_all is_name_byte text) e in
        let word = all_no_space is_name_byte text refl parts.1 in
        cc
    by false e = refl

no_number : (text : List ℕ) → is_word text ≡ false → read_number text ≡ None
no_number text h = by _ refl
  where
    by :
        (t : Bool)
        → (nat_le 1 (length text) && nat_le (length text) 10 && list_all is_digit text
        && (length text == 1 || not (slice_index text 0 == 48))) ≡ t
        → cond t (Some (digits_value 10 text)) None ≡ None
    by true e =
        let outer =
        and_parts
        (nat_le 1 (length text) && nat_le (length text) 10 && list_all is_digit text)
        (length text == 1 || not (slice_index text 0 == 48)) e in
        let parts =
        and_parts (nat_le 1 (length text) && nat_le (length text) 10) (list_all is_digit text)
        outer.0 in
        let word = all_no_space is_digit text refl parts.1 in
        cc
    by false e = refl

-- a single name is the whole text
pub whole_name : (text : List ℕ) → single_field read_name (fields text) ≡ read_name text
whole_name text = whole read_name no_name text

-- a single number is the whole text
pub whole_number : (text : List ℕ) → single_field read_number (fields text) ≡ read_number text
whole_number text = whole read_number no_number text
