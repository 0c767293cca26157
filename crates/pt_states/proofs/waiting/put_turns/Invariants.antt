use Rattle.std.proofs.Common.{◌≡◌, ◌++◌, drop}
use Rattle.pt_states.specs.States.{turn_words}
use Rattle.pt_states.proofs.waiting.put_turns.Given as goal

abbrev pub invariant-loop-turn : goal.invariant-loop-turn
invariant-loop-turn g l =
    l.out.items ++ turn_words l.lead l.class (drop l.turn-index l.turns)
    ≡ l.fn.out.items ++ turn_words l.fn.intro l.fn.class l.fn.turns
