use Rattle.std.proofs.Common.{arith}
use Rattle.pt_states.proofs.Places.{place_within}
use Rattle.pt_states.proofs.turns.add.Goals as goal

pub insert-requires : goal.insert-requires
insert-requires g c =
    omega (arith, c.place_of-place.ensures, place_within c.args.turn c.as_slice.result.now)
