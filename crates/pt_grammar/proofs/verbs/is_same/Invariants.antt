use Rattle.std.proofs.Common.{◌≡◌, take}
use Rattle.pt_grammar.proofs.verbs.is_same.Given as goal

abbrev pub invariant-loop-place : goal.invariant-loop-place
invariant-loop-place l = take l.place l.word ≡ take l.place l.text
