-- Fields: words separated by spaces.
use Rattle.std.specs.Prelude.{ℕ, ◌==◌, ◌++◌, List, [], ◌∷◌, Option, None, Some, if◌then◌else◌}
use Rattle.std.specs.Borrow.{Bor}

-- words, each preceded by a space
abbrev pub after_spaces : List (List ℕ) → List ℕ
after_spaces [] = []
after_spaces (word ∷ words) = 32 ∷ word ++ after_spaces words

-- a word and more words, separated by exactly one space each, with none at either end
abbrev pub join_with_spaces : List ℕ → List (List ℕ) → List ℕ
join_with_spaces word words = word ++ after_spaces words

-- the fields after a byte is put before the first of them
abbrev pub push_first : ℕ → List (List ℕ) → List (List ℕ)
push_first b [] = (b ∷ []) ∷ []
push_first b (field ∷ fields) = (b ∷ field) ∷ fields

-- the parts of a text between its spaces; two spaces in a row, or one at an end, give an empty part
abbrev pub fields : List ℕ → List (List ℕ)
fields [] = [] ∷ []
fields (b ∷ bytes) = if b == 32 then [] ∷ fields bytes else push_first b (fields bytes)

-- the fields of what is left of a text, if anything is
abbrev pub fields_left : Option (Bor (List ℕ)) → List (List ℕ)
fields_left None = []
fields_left (Some rest) = fields rest.now
