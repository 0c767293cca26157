use Rattle.std.proofs.Common.{◌≡◌, take}
use Rattle.pt_grammar.proofs.named_start.after.Given as goal

abbrev pub invariant-loop-place : goal.invariant-loop-place
invariant-loop-place l = take l.place l.text ≡ take l.place l.start
