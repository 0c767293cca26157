use Rattle.std.proofs.Common.{subst, refl, Some, None}
use Rattle.memchr.specs.Find.{IsFirstByte, is_byte}
use Rattle.pt_fields.proofs.LaneLemmas.{first_of_front, none_in_front}
use Rattle.pt_fields.proofs.fields.first_space.Goals as goal

pub returns-in-Some-space_in : goal.returns-in-Some-space_in
returns-in-Some-space_in c =
    first_of_front 32 c.args.text.now 16 c.in-Some-space_in.place
    (subst (λ xs. IsFirstByte (is_byte 32) xs (Some c.in-Some-space_in.place))
    c.in-Some.ensures.cases.same c.in-Some-space_in.ensures)

pub space_from-requires-in-None-clause-none : goal.space_from-requires-in-None-clause-none
space_from-requires-in-None-clause-none c =
    none_in_front 32 c.args.text.now 16 (c.in-Some.ensures.variant.0 refl)
    (subst (λ xs. IsFirstByte (is_byte 32) xs None) c.in-Some.ensures.cases.same c.in-None.ensures)
