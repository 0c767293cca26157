-- Rows: the rows of a text, and what each of them is in a trace.
use Rattle.std.specs.Prelude.{ℕ, ◌==◌, ◌&&◌, ◌||◌, List, [], ◌∷◌, Bool, true, Option, None, Some}
use Rattle.std.specs.Prelude.{codes, if◌then◌else◌}
use Rattle.std.specs.Str.{bytes_eq}
use Rattle.pt_fields.specs.Fields.{push_first}
use Rattle.pt_grammar.specs.declared.cut.Cut.{Cut}
use Rattle.pt_grammar.specs.declared.cut.Cut.TheVariants.{Long}
use Rattle.pt_grammar.specs.Cuts.{cut_of}

-- the rows of a text: a newline ends a row, and a last row without one is a row unless it is empty
abbrev pub rows : List ℕ → List (List ℕ)
rows [] = []
rows (b ∷ bytes) = if b == 10 then [] ∷ rows bytes else push_first b (rows bytes)

-- what follows a mark and a space at the front of a row, if the row begins so
abbrev pub after_mark : ℕ → List ℕ → Option (List ℕ)
after_mark mark [] = None
after_mark mark (a ∷ []) = None
after_mark mark (a ∷ b ∷ rest) = if (a == mark) && (b == 32) then Some rest else None

-- whether a row is a remark: it is empty, or begins with a space or `#`  [profile]
abbrev pub is_remark : List ℕ → Bool
is_remark [] = true
is_remark (b ∷ row) = (b == 32) || (b == 35)

-- the text of the answer in a row, which follows `> `  [profile]
abbrev pub text_in : List ℕ → Option (List ℕ)
text_in row = after_mark 62 row

-- the line in a row, from what follows `< `, if the row begins so
abbrev line_marked : Option (List ℕ) → List ℕ → Cut
line_marked (Some text) row = cut_of text
line_marked None row = if bytes_eq row (codes "<") then Long else cut_of row

-- the line of a script in a row that is neither a remark nor an answer: it follows `< `, is `<` if
-- it was too long, and is otherwise the row  [profile]
abbrev pub line_of : List ℕ → Cut
line_of row = line_marked (after_mark 60 row) row

-- a line, unless there is an answer
abbrev line_unless : Option (List ℕ) → Cut → Option Cut
line_unless (Some text) line = None
line_unless None line = Some line

-- the line of a script in a row, if it is neither a remark nor an answer  [profile]
abbrev pub line_in : List ℕ → Option Cut
line_in row = if is_remark row then None else line_unless (text_in row) (line_of row)
