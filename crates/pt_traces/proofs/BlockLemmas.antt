-- BlockLemmas: blocks and answers, row after row.
use Rattle.std.proofs.Common.{◌≡◌, ◌≤◌, ℕ, suc, List, [], ◌∷◌, length, arith, Option, None, Some}
use Rattle.pt_grammar.specs.declared.cut.Cut.{Cut}
use Rattle.pt_traces.specs.Rows.{line_in, text_in}
use Rattle.pt_traces.specs.Answers.{AnswerText}
use Rattle.pt_traces.specs.Blocks.{SeenBlock, blocks, block_with}

-- the first of some rows is one more than the rest
pub fewer : {T : Type 0} (all more : List T) (x : T) → all ≡ x ∷ more
    → suc (length more) ≡ length all
fewer all more x is = rw is

-- there are no more blocks than rows
pub blocks-few : (rows : List (List ℕ)) → length (blocks rows) ≤ length rows
blocks-few [] = omega arith
blocks-few (row ∷ rows) = by (line_in row) _ (blocks rows) (blocks-few rows)
  where
    by : (line : Option Cut) (seen : List AnswerText) (more : List SeenBlock)
        → length more ≤ length rows → length (block_with line seen more) ≤ suc (length rows)
    by (Some line) seen more few = omega (arith, few)
    by None seen more few = omega (arith, few)
