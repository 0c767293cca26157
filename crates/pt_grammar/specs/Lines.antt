-- Lines: the lines of a stream of bytes, and which of them a cutter still has to give.
use Rattle.std.specs.Prelude.{◌≡◌, ◌≢◌, ℕ, ◌+◌, ◌<◌, ◌≤◌, ◌==◌, ◌++◌, Bool, true, List, [], ◌∷◌}
use Rattle.std.specs.Prelude.{length, take, drop, if◌then◌else◌, slice_index, map}
use Rattle.pt_grammar.specs.declared.cut.Cut.{Cut}
use Rattle.pt_grammar.specs.Cuts.{cut_of}

-- the lines of the bytes, after a line has begun with this text: a newline ends a line, and a last
-- line without one is a line unless it is empty  [profile]
abbrev pub lines_after : List ℕ → List ℕ → List Cut
lines_after [] [] = []
lines_after (x ∷ begun) [] = cut_of (x ∷ begun) ∷ []
lines_after begun (b ∷ bytes) =
    if b == 10 then cut_of begun ∷ lines_after [] bytes
    else lines_after (begun ++ b ∷ []) bytes

-- the lines of the bytes
abbrev pub lines : List ℕ → List Cut
lines bytes = lines_after [] bytes

-- the lines of the bytes after the first newline
abbrev pub lines_after_newline : List ℕ → List Cut
lines_after_newline [] = []
lines_after_newline (b ∷ bytes) = if b == 10 then lines bytes else lines_after_newline bytes

-- what a cutter holds: the bytes that it has not given, and whether they continue a line that was
-- given as too long
pub record CutterView : Type 0 where
  pub rest : List ℕ
  pub dropping : Bool

-- the lines that are still to be given, if these bytes follow and then the end
abbrev pub lines_to_come : CutterView → List ℕ → List Cut
lines_to_come cutter more =
    if cutter.dropping then lines_after_newline (cutter.rest ++ more)
    else lines (cutter.rest ++ more)

-- the bytes have no newline
abbrev pub NoNewline : List ℕ → Type 0
NoNewline bytes = (i : ℕ) → i < length bytes → slice_index bytes i ≢ 10

-- no held line is whole or already too long, and nothing is held of a line that was given as too
-- long
pub record HasNoWholeLine (cutter : CutterView) : Type 0 where
  pub no_newline : NoNewline cutter.rest
  pub short : length cutter.rest ≤ 128
  pub dropped : cutter.dropping ≡ true → cutter.rest ≡ []

-- what is held after a line that ends at this place, and its newline, are dropped
abbrev pub after_line : CutterView → ℕ → CutterView
after_line cutter end = record cutter { rest = drop (end + 1) cutter.rest }

-- a line of at most 128 bytes is whole, and ends at this place
pub record IsFirstLine (cutter : CutterView) (end : ℕ) : Type 0 where
  pub within : end < length cutter.rest
  pub short : end ≤ 128
  pub given : (more : List ℕ)
      → lines_to_come cutter more ≡ cut_of (take end cutter.rest)
      ∷ lines_to_come (after_line cutter end) more

-- the bytes of texts, each ended by a newline, and of a rest
abbrev pub join_lines : List (List ℕ) → List ℕ → List ℕ
join_lines [] rest = rest
join_lines (text ∷ texts) rest = text ++ 10 ∷ join_lines texts rest

-- no text has a newline
abbrev pub AllTexts : List (List ℕ) → Type 0
AllTexts [] = Unit {0}
AllTexts (text ∷ texts) = NoNewline text × AllTexts texts

-- what a cutter gives of a last line without a newline
abbrev pub last_of : List ℕ → List Cut
last_of [] = []
last_of (b ∷ rest) = cut_of (b ∷ rest) ∷ []

-- the lines of texts that are each ended by a newline, and of a rest, are these texts and the rest
abbrev pub LinesOfTexts : Type 0
LinesOfTexts =
    (texts : List (List ℕ)) (rest : List ℕ) → AllTexts texts → NoNewline rest
    → lines (join_lines texts rest) ≡ map cut_of texts ++ last_of rest
