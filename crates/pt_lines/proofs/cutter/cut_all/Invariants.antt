use Rattle.std.proofs.Common.{◌≡◌, ◌+◌, ◌++◌, ℕ, List, length, take}
use Rattle.std.specs.List.{flat_map}
use Rattle.pt_grammar.specs.Lines.{lines, lines_to_come, HasNoWholeLine}
use Rattle.pt_lines.proofs.cutter.cut_all.Given as goal

abbrev pub invariant-loop-cut : goal.invariant-loop-cut
invariant-loop-cut g l =
    (more : List ℕ)
    → lines (flat_map (λ piece. piece.now) (take (l.piece-index + 1) l.pieces) ++ more)
    ≡ l.cuts.items ++ lines_to_come l.cutter more

abbrev pub decreases-loop-cut : goal.decreases-loop-cut
decreases-loop-cut g l = length l.cutter.rest

abbrev pub invariant-loop-piece : goal.invariant-loop-piece
invariant-loop-piece g l =
    ((more : List ℕ)
    → lines (flat_map (λ piece. piece.now) (take l.piece-index l.pieces) ++ more)
    ≡ l.cuts.items ++ lines_to_come l.cutter more)
    × HasNoWholeLine l.cutter
