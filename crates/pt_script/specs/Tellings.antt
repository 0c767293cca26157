-- Tellings: what is written for the lines of a script, in any of the ways in which it can be told.
use Rattle.std.specs.Prelude.{◌≡◌, ℕ, ◌+◌, ◌++◌, List, [], length, map}
use Rattle.pt_grammar.specs.declared.cut.Cut.{Cut}
use Rattle.pt_grammar.specs.Lines.{CutterView, lines_to_come}
use Rattle.pt_grammar.specs.Script.{script_of}
use Rattle.pt_engine.specs.Scripts.{Script}
use Rattle.pt_engine.specs.LineAnswers.{AnswersLines}

-- a way to tell what came of lines: from what is known before them, which texts may be written for
-- these lines, and what is known after them
abbrev pub Telling : Type 1
Telling = Script → List Cut → Script → List ℕ → Type 0

-- only the answers are told
abbrev pub answers : Telling
answers s cuts last text = AnswersLines s (map script_of cuts) last text

-- nothing is told of no lines, what is told of some lines and of the next is told of all of them,
-- and each line is counted
pub record IsTelling (Tells : Telling) : Type 0 where
  pub none : (s : Script) → Tells s [] s []
  pub join :
      (s : Script) (xs : List Cut) (mid : Script) (text : List ℕ) (ys : List Cut) (last : Script)
      (more : List ℕ) → Tells s xs mid text → Tells mid ys last more
      → Tells s (xs ++ ys) last (text ++ more)
  pub counts :
      (s : Script) (xs : List Cut) (last : Script) (text : List ℕ) → Tells s xs last text
      → length last.seen ≡ length s.seen + length xs

-- what may be written for these lines was appended
pub record TellsCuts (Tells : Telling) (s : Script) (cuts : List Cut) (old : List ℕ) (last : Script)
    (new : List ℕ) : Type 0 where
  pub text : List ℕ
  pub tells : Tells s cuts last text
  pub grows : new ≡ old ++ text

-- the lines that a cutter gave between two states were told of in this way
pub record TellsBetween (Tells : Telling) (cutter : CutterView) (s : Script) (old : List ℕ)
    (next : CutterView)
    (last : Script) (new : List ℕ) : Type 0 where
  pub cuts : List Cut
  pub given : (more : List ℕ) → lines_to_come cutter more ≡ cuts ++ lines_to_come next more
  pub appends : TellsCuts Tells s cuts old last new
