-- Cuts: what a cutter gives of a line.
use Rattle.std.specs.Prelude.{ℕ, List, Bool, true, false, length, nat_le, if◌then◌else◌}
use Rattle.pt_grammar.specs.declared.cut.Cut.{Cut}
use Rattle.pt_grammar.specs.declared.cut.Cut.TheVariants.{Line, Long}

-- whether a cut line was too long
abbrev pub is_long : Cut → Bool
is_long (Line text) = false
is_long Long = true

-- what a cutter gives of a line with this text: the text itself up to 128 bytes  [profile]
abbrev pub cut_of : List ℕ → Cut
cut_of text = if nat_le (length text) 128 then Line (record { items = text }) else Long
