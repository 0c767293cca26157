use Rattle.memchr.specs.Find.{Nowhere, Passes, is_byte}
use Rattle.pt_fields.proofs.fields.space_from.Given as goal

abbrev pub invariant-loop-place : goal.invariant-loop-place
invariant-loop-place l = Nowhere (Passes (is_byte 32) l.text) 0 l.place
