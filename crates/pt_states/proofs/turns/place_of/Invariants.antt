use Rattle.std.proofs.Common.{◌≡◌, ◌+◌, drop}
use Rattle.pt_states.specs.Turns.{place_in}
use Rattle.pt_states.proofs.turns.place_of.Given as goal

abbrev pub invariant-loop-place : goal.invariant-loop-place
invariant-loop-place l =
    l.place + place_in l.turn (drop l.place l.turns) ≡ place_in l.fn.turn l.fn.turns
