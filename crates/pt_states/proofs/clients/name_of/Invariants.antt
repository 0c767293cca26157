use Rattle.std.proofs.Common.{◌≡◌, drop}
use Rattle.pt_states.specs.States.{name_of as name_meant}
use Rattle.pt_states.proofs.clients.name_of.Given as goal

abbrev pub invariant-loop-name : goal.invariant-loop-name
invariant-loop-name l =
    name_meant (drop l.name-index l.clients) l.c ≡ name_meant l.fn.clients l.fn.c
