-- Blocks: the lines of a trace's script, each with the answers that were seen.
use Rattle.std.specs.Prelude.{ℕ, suc, ◌||◌, not, List, [], ◌∷◌, Bool, true, false, Option, None}
use Rattle.std.specs.Prelude.{Some, if◌then◌else◌}
use Rattle.pt_grammar.specs.declared.cut.Cut.{Cut}
use Rattle.pt_traces.specs.Rows.{line_in, text_in}
use Rattle.pt_traces.specs.Answers.{AnswerText, answer_of, is_answer}

-- a line of the script, and the answers that were seen after it and before the next line
pub record SeenBlock : Type 0 where
  pub line : Cut
  pub seen : List AnswerText

-- the answers from a row on: its own, if it has one, and those of the next rows, unless it is a
-- line
abbrev answers_with : Option (List ℕ) → Option Cut → List AnswerText → List AnswerText
answers_with (Some text) line more = answer_of text ∷ more
answers_with None (Some line) more = []
answers_with None None more = more

-- the answers in rows before the first line of the script
abbrev pub answers_before_line : List (List ℕ) → List AnswerText
answers_before_line [] = []
answers_before_line (row ∷ rows) =
    answers_with (text_in row) (line_in row) (answers_before_line rows)

-- the blocks from a row on: its own, if it is a line, and those of the next rows
abbrev pub block_with : Option Cut → List AnswerText → List SeenBlock → List SeenBlock
block_with (Some line) seen more = record { line = line; seen = seen } ∷ more
block_with None seen more = more

-- the blocks of a trace with these rows
abbrev pub blocks : List (List ℕ) → List SeenBlock
blocks [] = []
blocks (row ∷ rows) = block_with (line_in row) (answers_before_line rows) (blocks rows)

-- whether a row has a line of the script
abbrev pub is_line : Option Cut → Bool
is_line (Some line) = true
is_line None = false

-- whether what follows `> ` is not an answer to a line before it
abbrev wrong_text : Bool → Option (List ℕ) → Bool
wrong_text has_line (Some text) = not has_line || not (is_answer (answer_of text))
wrong_text has_line None = false

-- whether a row should be an answer and is none: it can't be read as one, or no line of the script
-- came before it
abbrev pub is_wrong : (has_line : Bool) → List ℕ → Bool
is_wrong has_line row = wrong_text has_line (text_in row)

-- the number of the first such row, where the rows have numbers from this one on
abbrev pub first_wrong : (has_line : Bool) → ℕ → List (List ℕ) → Option ℕ
first_wrong has_line number [] = None
first_wrong has_line number (row ∷ rows) =
    if is_wrong has_line row then Some number
    else first_wrong (has_line || is_line (line_in row)) (suc number) rows
